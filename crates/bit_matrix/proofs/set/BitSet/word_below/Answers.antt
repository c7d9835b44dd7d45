use Rattle.std.proofs.Common.{◌/◌, ◌&&◌, nat_lt, List, ℕ, ap, ◌∙◌}
use Rattle.std.proofs.lemmas.List.{get_or_read}
use Rattle.bit_matrix.specs.Set.{has, bit_of}
use Rattle.bit_matrix.proofs.Counts.{word_cut, no_word}
use Rattle.bit_matrix.proofs.set.BitSet.word_below.Goals as goal

pub returns-in-Some : goal.returns-in-Some
unfolding has
returns-in-Some c =
    let words = c.deref.result.now in
    let found = c.in-Some.ensures.lookup in
    λ n row. word_cut words c.args.limit c.in-Some.word.now (get_or_read words (c.args.limit / 64) c.in-Some.word.now found.3.0 found.1 0) n row
    ∙ ap (λ (ws : List ℕ). bit_of ws n && nat_lt n c.args.limit) c.deref.ensures.value

pub returns-in-None : goal.returns-in-None
unfolding has
returns-in-None c = λ n row. no_word c.deref.result.now c.args.limit c.in-None.ensures.lookup.3 n row
    ∙ ap (λ (ws : List ℕ). bit_of ws n && nat_lt n c.args.limit) c.deref.ensures.value
