use Rattle.std.proofs.Common.{ℕ, ◌/◌, List, sym, ap, ◌∙◌}
use Rattle.std.proofs.lemmas.List.{get_or_read}
use Rattle.bit_matrix.specs.Set.{has, bit_of}
use Rattle.bit_matrix.proofs.Bits.{bit_of_past, bit_read}
use Rattle.bit_matrix.proofs.set.BitSet.contains.Goals as goal

pub returns-in-Some : goal.returns-in-Some
unfolding has
returns-in-Some c =
    let found = c.in-Some.ensures.lookup in
    bit_read c.deref.result.now c.args.n c.in-Some.word.now (get_or_read c.deref.result.now (c.args.n / 64) c.in-Some.word.now found.3.0 found.1 0)
    ∙ ap (λ (ws : List ℕ). bit_of ws c.args.n) c.deref.ensures.value

pub returns-in-None : goal.returns-in-None
unfolding has
returns-in-None c =
    sym (bit_of_past c.deref.result.now c.args.n c.in-None.ensures.lookup.3)
    ∙ ap (λ (ws : List ℕ). bit_of ws c.args.n) c.deref.ensures.value
