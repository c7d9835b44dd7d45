use Rattle.std.proofs.Common.{◌≡◌, ℕ, true, take}
use Rattle.std.specs.List.{All}
use Rattle.bit_matrix.specs.Set.{has}
use Rattle.merge_certificates.specs.Quiet.{AreKept}
use Rattle.merge_certificates.proofs.touched.add_all.Given as goal

abbrev pub invariant-loop-number : goal.invariant-loop-number
invariant-loop-number l = AreKept l.fn.names l.names × All (λ (n : ℕ). has l.names n ≡ true) (take l.number-index l.list)
