-- What is found at each item, given those before it, as a loop goes on.
use Rattle.std.proofs.Common.{◌≡◌, ◌∙◌, ℕ, ◌+◌, ◌<◌, List, [], ◌∷◌, ◌++◌, append_assoc, length, get_or, take, map, refl, sym, ap}
use Rattle.std.specs.List.{flat_map}
use Rattle.std.proofs.lemmas.List.{append-nil, take_more}
use Rattle.sdl_directives.specs.Earlier.{each_after}
pub use Rattle.type_system_report.proofs.Reported.{reports_next}

module _ {A B : Type 0} (f : List A → A → List B) where
  after_more : (before xs : List A) (x : A) → each_after f before (xs ++ x ∷ []) ≡ each_after f before xs ++ f (before ++ xs) x
  after_more before [] x = append-nil (f before x) ∙ ap (λ b. f b x) (sym (append-nil before))
  after_more before (y ∷ ys) x =
      let ends = each_after f (before ++ y ∷ []) ys in
      ap (λ z. f before y ++ z) (after_more (before ++ y ∷ []) ys x ∙ ap (λ b. ends ++ f b x) (append_assoc before (y ∷ []) ys))
      ∙ sym (append_assoc (f before y) ends (f (before ++ y ∷ ys) x))

  -- what was found at those that were seen, and then at the next
  pub after_next : (xs : List A) (i : ℕ) (x : A) (r r₁ r₂ : List B) → i < length xs → x ≡ get_or xs i x
      → r₁ ≡ r ++ each_after f [] (take i xs) → r₂ ≡ r₁ ++ f (take i xs) x → r₂ ≡ r ++ each_after f [] (take (i + 1) xs)
  after_next xs i x r r₁ r₂ here is seen more =
      let found = each_after f [] (take i xs) in
      more
      ∙ ap (λ z. z ++ f (take i xs) x) seen
      ∙ append_assoc r found (f (take i xs) x)
      ∙ ap (λ z. r ++ z) (sym (after_more [] (take i xs) x))
      ∙ ap (λ z. r ++ each_after f [] (take i xs ++ z ∷ [])) is
      ∙ ap (λ zs. r ++ each_after f [] zs) (sym (take_more xs i x here))

-- what is found at the items of a list of other things
pub flat_mapped : {A B C : Type 0} (f : B → List C) (g : A → B) (xs : List A) → flat_map (λ x. f (g x)) xs ≡ flat_map f (map g xs)
flat_mapped f g [] = refl
flat_mapped f g (x ∷ xs) = ap (λ z. f (g x) ++ z) (flat_mapped f g xs)
