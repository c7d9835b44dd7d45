-- A count that goes from state to state, at a place of the text.
use Rattle.std.proofs.Common.{◌≡◌, ◌<◌, ◌+◌, ℕ, List, Some, None, length, drop, drop-cons, add-one, refl, ap, sym, ◌∙◌}
use Rattle.graphql_lexer.specs.Scanning.{counted, block_turn, block_length}

block_step : (left : ℕ) (text : List ℕ) (i : ℕ) → i < length text → block_length left (drop i text) ≡ counted (block_turn left (drop i text)) (λ next. block_length next (drop (i + 1) text))
unfolding block_length
block_step left text i h = rw (add-one, drop-cons text i 0 h) refl

pub block_none : (left : ℕ) (text : List ℕ) (i : ℕ) → i < length text → None ≡ block_turn left (drop i text) → block_length left (drop i text) ≡ 0
block_none left text i h e = block_step left text i h ∙ sym (ap (λ t. counted t (λ next. block_length next (drop (i + 1) text))) e)

pub block_some : (left next : ℕ) (text : List ℕ) (i : ℕ) → i < length text → Some next ≡ block_turn left (drop i text) → block_length left (drop i text) ≡ 1 + block_length next (drop (i + 1) text)
block_some left next text i h e = block_step left text i h ∙ sym (ap (λ t. counted t (λ next. block_length next (drop (i + 1) text))) e)
