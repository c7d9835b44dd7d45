-- Elements of lists that are made of lists.
use Rattle.std.proofs.Common.{◌≡◌, ℕ, ◌+◌, ◌<◌, List, [], ◌∷◌, ◌++◌, length, get_or, take, refl, inl, inr, subst}
use Rattle.std.specs.List.{Contains, flat_map}
use Rattle.std.proofs.lemmas.List.Elements.{Contains-append_cases, Contains-append_left, Contains-append_right}
use Rattle.fragment_graph.proofs.Lists.{contains_none, contains_one, one_contains}
use Rattle.type_system_report.proofs.Reported.{reports_next}

module _ {X Y : Type 0} (f : X → List Y) where
  -- an element of what is made of the items is made of one of them
  pub flat_real : (xs : List X) (y : Y) → Contains (flat_map f xs) y → (x : X) × Contains xs x × Contains (f x) y
  flat_real [] y c = absurd (contains_none y c)
  flat_real (x ∷ xs) y c = elim (Contains-append_cases (f x) (flat_map f xs) y c) [
    | inl here ↦ (x, Contains-append_left (x ∷ []) xs x (one_contains x), here)
    | inr there ↦ let r = flat_real xs y there in (r.0, Contains-append_right (x ∷ []) xs r.0 r.1, r.2)
  ]

  pub flat_whole : (xs : List X) (x : X) (y : Y) → Contains xs x → Contains (f x) y → Contains (flat_map f xs) y
  flat_whole [] x y c h = absurd (contains_none x c)
  flat_whole (z ∷ xs) x y c h = elim (Contains-append_cases (z ∷ []) xs x c) [
    | inl here ↦ Contains-append_left (f z) (flat_map f xs) y (subst (λ (w : X). Contains (f w) y) (sym_one here) h)
    | inr there ↦ Contains-append_right (f z) (flat_map f xs) y (flat_whole xs x y there h)
  ]
    where
      sym_one : Contains (z ∷ []) x → x ≡ z
      sym_one i = let e : z ≡ x = contains_one z x i in cc

  -- what is made of the items that were seen, and of the next
  pub flat_next : (xs : List X) (i : ℕ) (x d : X) → i < length xs → x ≡ get_or xs i d
      → flat_map f (take i xs) ++ f x ≡ flat_map f (take (i + 1) xs)
  flat_next xs i x d room is = reports_next f xs i x d [] (flat_map f (take i xs)) (flat_map f (take i xs) ++ f x) room is refl refl
