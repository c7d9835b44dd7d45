-- The text of a circle, in the parts in which it is written.
use Rattle.std.proofs.Common.{◌≡◌, ℕ, ◌+◌, ◌<◌, List, ◌∷◌, ◌++◌, true, length, get_or, drop, drop-cons, add-one, codes, refl, sym, ap, ◌∙◌}
use Rattle.std.specs.Fmt.{HasWritten, IsPlainFormatter}
use Rattle.std.specs.declared.fmt.Formatter.{Formatter}
use Rattle.std.proofs.lemmas.Grind.{put_four}
use Rattle.language_values.specs.ValuesLeft.{WritesPart}
use Rattle.language_values.proofs.PrintLeft.{part_one, part_then}
use Rattle.type_system_inputs.specs.declared.circles.InputCircle.{InputCircle}
use Rattle.type_system_inputs.specs.declared.circles.RequiredField.{RequiredField}
use Rattle.type_system_inputs.specs.Told.{circle_text, others_text}

module _ {W : Type 0} (took : W → List ℕ → W → Type 0) where
  -- one field more
  pub field_written : (f g h : Formatter W) (fs : List RequiredField) (i : ℕ) (d : RequiredField) → i < length fs → WritesPart took f g (others_text (drop i fs)) (others_text fs)
      → (IsPlainFormatter g → true ≡ true → HasWritten took g (codes "." ++ (get_or fs i d).name.now) h) → WritesPart took f h (others_text (drop (i + 1) fs)) (others_text fs)
  field_written f g h fs i d room before more =
      let next : drop i fs ≡ get_or fs i d ∷ drop (i + 1) fs = drop-cons fs i d room ∙ ap (λ k. get_or fs i d ∷ drop k fs) (sym (add-one i)) in
      part_then took f g h (others_text (drop i fs)) (others_text (drop (i + 1) fs)) (others_text fs) before
      (part_one took g h (codes "." ++ (get_or fs i d).name.now) (others_text (drop (i + 1) fs)) (others_text (drop i fs)) (λ p. more p refl) (sym (ap others_text next)))

  pub circle_written : (f g h i j : Formatter W) (c : InputCircle) (others : List RequiredField) → others ≡ c.others.items
      → (IsPlainFormatter f → true ≡ true → HasWritten took f (codes "Cannot reference Input Object " ++ c.first.of.now) g)
      → (IsPlainFormatter g → true ≡ true → HasWritten took g (codes " within itself through a series of non-null fields: \"" ++ c.first.name.now) h)
      → (IsPlainFormatter h → true ≡ true → HasWritten took h (others_text others) i)
      → (IsPlainFormatter i → HasWritten took i (codes "\"") j) → IsPlainFormatter f → HasWritten took f (circle_text c) j
  circle_written f g h i j c others is one two three four p =
      let a : List ℕ = codes "Cannot reference Input Object " ++ c.first.of.now in
      let b : List ℕ = codes " within itself through a series of non-null fields: \"" ++ c.first.name.now in
      let first : HasWritten took f a g = one p refl in
      let second : HasWritten took g b h = two first.plain refl in
      let third : HasWritten took h (others_text others) i = three second.plain refl in
      put_four took f g h i j a b (others_text others) (codes "\"") (circle_text c) first second third (four third.plain) (ap (λ (xs : List RequiredField). a ++ (b ++ (others_text xs ++ codes "\""))) is)
