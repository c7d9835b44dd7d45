use Rattle.std.proofs.Common.{◌≡◌, ℕ, take, true}
use Rattle.std.specs.List.{All}
use Rattle.bit_matrix.specs.Set.{has}
use Rattle.merge_sets.specs.Names.{AreListed, HaveOwnNames}
use Rattle.merge_sets.specs.declared.node.Entry.{Entry}
use Rattle.merge_sets.proofs.Naming.{Lists}
use Rattle.merge_sets.proofs.groups.list_firsts.Given as goal

-- the names that were seen are those of the firsts
abbrev pub invariant-loop-field : goal.invariant-loop-field
invariant-loop-field l =
    AreListed l.firsts.items (take l.field-index l.own)
    × ((n : ℕ) → has l.seen n ≡ true → Lists l.firsts.items n)
    × All (λ (f : Entry). has l.seen f.response ≡ true) l.firsts.items
    × HaveOwnNames l.firsts.items
