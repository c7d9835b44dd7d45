use Rattle.std.proofs.Common.{ℕ, ◌-◌, List, ap, ◌∙◌, vec_len, arith}
use Rattle.bit_matrix.specs.Set.{has, bit_of}
use Rattle.bit_matrix.proofs.Bits.{bit_of-zeros}
use Rattle.bit_matrix.proofs.set.BitSet.grow.Goals as goal

pub returns-in_err-resize-clause-same : goal.returns-in_err-resize-clause-same
unfolding has
returns-in_err-resize-clause-same c = λ m. ap (λ (ws : List ℕ). bit_of ws m) c.in_err-resize.ensures.items

pub returns-in_ok-resize-clause-same : goal.returns-in_ok-resize-clause-same
unfolding has
returns-in_ok-resize-clause-same c =
    let words = c.args.self.now.words in
    λ m. ap (λ (ws : List ℕ). bit_of ws m) c.in_ok-resize.ensures.items
    ∙ bit_of-zeros words.items c.args.count (c.args.count - vec_len words) m
    (omega (arith, c.if-len-count.true, c.len.ensures, words.ok.0))
