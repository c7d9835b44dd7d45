-- The text of a circle, in the parts in which it is written.
use Rattle.std.proofs.Common.{◌≡◌, ℕ, ◌+◌, ◌<◌, List, ◌∷◌, ◌++◌, Bor, true, length, get_or, drop, drop-cons, add-one, codes, refl, sym, ap, ◌∙◌}
use Rattle.std.specs.Fmt.{HasWritten, IsPlainFormatter}
use Rattle.std.specs.declared.fmt.Formatter.{Formatter}
use Rattle.language_types.specs.References.{list_copied}
use Rattle.language_values.specs.ValuesLeft.{WritesPart}
use Rattle.language_values.proofs.PrintLeft.{part_one, part_then}
use Rattle.sdl_directive_circles.specs.Circles.{steps_text}

module _ {W : Type 0} (took : W → List ℕ → W → Type 0) where
  -- one step more
  pub step_written : (f g h : Formatter W) (xs : List (Bor (List ℕ))) (i : ℕ) (d : Bor (List ℕ)) → i < length xs
      → WritesPart took f g (steps_text (list_copied (drop i xs))) (steps_text (list_copied xs))
      → (IsPlainFormatter g → true ≡ true → HasWritten took g (codes " -> @" ++ (get_or xs i d).now) h)
      → WritesPart took f h (steps_text (list_copied (drop (i + 1) xs))) (steps_text (list_copied xs))
  step_written f g h xs i d room before more =
      let next : drop i xs ≡ get_or xs i d ∷ drop (i + 1) xs = drop-cons xs i d room ∙ ap (λ k. get_or xs i d ∷ drop k xs)
      (sym (add-one i)) in
      let left : List ℕ = steps_text (list_copied (drop (i + 1) xs)) in
      part_then took f g h (steps_text (list_copied (drop i xs))) left (steps_text (list_copied xs)) before
      (part_one took g h (codes " -> @" ++ (get_or xs i d).now) left (steps_text (list_copied (drop i xs))) (λ p. more p refl)
      (sym (ap (λ (ys : List (Bor (List ℕ))). steps_text (list_copied ys)) next)))
