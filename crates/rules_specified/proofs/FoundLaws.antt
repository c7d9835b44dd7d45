-- What is noted of fields, one field more.
use Rattle.std.proofs.Common.{◌≡◌, ◌<◌, ◌≤◌, ◌+◌, ℕ, List, [], ◌∷◌, ◌++◌, length, drop, get_or, map, Some, None, slice_get, Bool, true, false, cond, sym, ap, ◌∙◌, refl, drop_of_length-le}
use Rattle.std.specs.List.{filter}
use Rattle.std.proofs.lemmas.List.{append-nil, append_assoc, drop_more}
use Rattle.language_types.specs.Position.{Placed}
use Rattle.language_types.specs.declared.position.SourcePosition.{SourcePosition}
use Rattle.language.specs.declared.tree.Field.{Field}
use Rattle.rules_specified.specs.Collecting.{placed}
use Rattle.rules_specified.specs.SingleRootField.{has_other_name, others, places, response_name}
use Rattle.rules_specified.specs.FoundAtRoot.{is_none}
use Rattle.rules_specified.specs.declared.collected.RootField.{RootField}

module _ {S : Type 0} (p : Placed (Field S) → Bool) where
  abbrev Kept : List (Placed (Field S)) → List SourcePosition
  Kept fs = places (filter p fs)

  by_case : (b : Bool) (f : Placed (Field S)) (fs : List (Placed (Field S))) → places (cond b (f ∷ []) []) ++ places fs ≡ places (cond b (f ∷ fs) fs)
  by_case true f fs = refl
  by_case false f fs = refl

  -- the field at the index is noted
  pub one_more : (xs : List (RootField S)) (i : ℕ) (x : RootField S) (old new total : List SourcePosition) → i < length xs → get_or xs i x ≡ x
      → new ≡ old ++ Kept (x.field.now ∷ []) → old ++ Kept (placed (drop i xs)) ≡ total → new ++ Kept (placed (drop (i + 1) xs)) ≡ total
  one_more xs i x old new total lt at e h =
      let rest = placed (drop (i + 1) xs) in
      let next : placed (drop i xs) ≡ x.field.now ∷ rest = ap placed (drop_more xs i x lt) ∙ ap (λ z. z.field.now ∷ rest) at in
      ap (λ z. z ++ Kept rest) e
      ∙ append_assoc old (Kept (x.field.now ∷ [])) (Kept rest)
      ∙ ap (λ z. old ++ z) (by_case (p x.field.now) x.field.now (filter p rest) ∙ ap Kept (sym next))
      ∙ h

  -- all are noted
  pub all_noted : (xs : List (RootField S)) (i : ℕ) (found total : List SourcePosition) → length xs ≤ i → found ++ Kept (placed (drop i xs)) ≡ total → found ≡ total
  all_noted xs i found total le h = sym (append-nil found) ∙ ap (λ z. found ++ Kept (placed z)) (sym (drop_of_length-le xs le)) ∙ h

pub none_first : {X : Type 0} (xs : List X) → slice_get xs 0 ≡ None → xs ≡ []
none_first [] e = refl
none_first (x ∷ xs) e = cc

pub first_there : {S : Type 0} (xs : List (RootField S)) (x : RootField S) → slice_get xs 0 ≡ Some x
    → (others (placed xs) ≡ filter (has_other_name (response_name x.field.now.item)) (placed xs)) × (false ≡ is_none (placed xs))
first_there [] x e = cc
first_there (y ∷ ys) x e =
    let same : y ≡ x = cc in
    (ap (λ z. filter (has_other_name (response_name z.field.now.item)) (placed (y ∷ ys))) same, refl)
