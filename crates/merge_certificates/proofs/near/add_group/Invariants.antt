use Rattle.std.proofs.Common.{◌≡◌, true, take}
use Rattle.std.specs.List.{All}
use Rattle.bit_matrix.specs.Set.{has}
use Rattle.merge_sets.specs.declared.node.Entry.{Entry}
use Rattle.merge_certificates.specs.Quiet.{AreKept}
use Rattle.merge_certificates.proofs.near.add_group.Given as goal

abbrev pub invariant-loop-field : goal.invariant-loop-field
invariant-loop-field l = AreKept l.fn.rows l.rows × All (λ (a : Entry). has l.rows a.field ≡ true) (take l.field-index l.group)
