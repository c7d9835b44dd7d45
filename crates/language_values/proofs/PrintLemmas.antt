-- The equations of `printed_value`.
use Rattle.std.proofs.Common.{◌≡◌, ℕ, List, [], ◌∷◌, ◌++◌, map, codes, sym, ap, ◌∙◌, refl, string_bytes}
use Rattle.std.specs.Prelude.{String, Option, Vec}
use Rattle.std.specs.declared.alloc.Global.{Global}
use Rattle.language_types.specs.declared.position.Span.{Span}
use Rattle.language_types.specs.declared.position.Spanning.{Spanning}
use Rattle.language_values.specs.declared.value.InputValue.{InputValue, fold-roll-InputValue}
use Rattle.language_values.specs.declared.value.InputValue.TheVariants as v
use Rattle.language_values.specs.declared.value.InputValue.TheOpen.{InputValue-F}
use Rattle.language_values.specs.Values.{Entry}
use Rattle.language_values.specs.ValuesPrinted.{comma_separated, printed_step, printed_value, printed_values, printed_entries}

map-map : {A B C : Type 0} (g : B → C) (f : A → B) (xs : List A) → map g (map f xs) ≡ map (λ x. g (f x)) xs
map-map g f [] = refl
map-map g f (x ∷ xs) = ap (λ ys. g (f x) ∷ ys) (map-map g f xs)

module _ {S : Type 0} (text : S → List ℕ) (str_of : S → Option (List ℕ)) where
  printed_value-List : (xs : Vec (Spanning (InputValue S) Span) Global) → printed_value text str_of (v.List xs) ≡ codes "[" ++ printed_values text str_of xs.items ++ codes "]"
  printed_value-List xs =
      ap (printed_value text str_of) (sym (v.rolls-List xs))
      ∙ fold-roll-InputValue S (List ℕ) (printed_step text str_of) (InputValue-F.List xs)
      ∙ ap (λ ps. codes "[" ++ comma_separated ps ++ codes "]") (map-map (λ w. w.item) _ xs.items)

  printed_value-Object : (xs : Vec (Entry (InputValue S)) Global) → printed_value text str_of (v.Object xs) ≡ codes "{" ++ printed_entries text str_of xs.items ++ codes "}"
  printed_value-Object xs =
      ap (printed_value text str_of) (sym (v.rolls-Object xs))
      ∙ fold-roll-InputValue S (List ℕ) (printed_step text str_of) (InputValue-F.Object xs)
      ∙ ap (λ ps. codes "{" ++ comma_separated ps ++ codes "}") (map-map (λ e. string_bytes e.0.item ++ codes ": " ++ e.1.item) _ xs.items)

  -- the same at a value that is such a list, object or variable
  pub printed_value-at-List : (w : InputValue S) (xs : Vec (Spanning (InputValue S) Span) Global) → w ≡ v.List xs → printed_value text str_of w ≡ codes "[" ++ printed_values text str_of xs.items ++ codes "]"
  printed_value-at-List w xs e = ap (printed_value text str_of) e ∙ printed_value-List xs

  pub printed_value-at-Object : (w : InputValue S) (xs : Vec (Entry (InputValue S)) Global) → w ≡ v.Object xs → printed_value text str_of w ≡ codes "{" ++ printed_entries text str_of xs.items ++ codes "}"
  printed_value-at-Object w xs e = ap (printed_value text str_of) e ∙ printed_value-Object xs

  pub printed_value-at-Variable : (w : InputValue S) (name : String Global) → w ≡ v.Variable name → printed_value text str_of w ≡ codes "$" ++ string_bytes name
  printed_value-at-Variable w name e =
      ap (printed_value text str_of) (e ∙ sym (v.rolls-Variable name))
      ∙ fold-roll-InputValue S (List ℕ) (printed_step text str_of) (InputValue-F.Variable name)
