use Rattle.std.proofs.Common.{ℕ, List, [], ap, ◌∙◌, arith}
use Rattle.bit_matrix.specs.Set.{has, bit_of}
use Rattle.bit_matrix.proofs.Bits.{bit_of_past}
use Rattle.bit_matrix.proofs.set.BitSet.clear.Goals as goal

pub returns : goal.returns
unfolding has
returns c = λ n. ap (λ (ws : List ℕ). bit_of ws n) c.clear.ensures.items ∙ bit_of_past [] n (omega arith)
