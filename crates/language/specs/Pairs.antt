-- Pairs of a name with its span and something else.
use Rattle.std.specs.Prelude.{ℕ, List, Option, option_map, find}
use Rattle.std.specs.Str.{bytes_eq}
use denote.Ref.{Bor}
use Rattle.language_types.specs.declared.position.Span.{Span}
use Rattle.language_types.specs.declared.position.Spanning.{Spanning}

-- what is paired with the first of this name
abbrev pub first_of_name : {T : Type 0} → List ℕ → List (Spanning (Bor (List ℕ)) Span × T) → Option T
first_of_name name ps = option_map (λ p. p.1) (find (λ p. bytes_eq p.0.item.now name) ps)
