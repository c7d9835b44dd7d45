-- Circles by names: of fields, or whatever leads from one named thing to another.
use Rattle.std.specs.Prelude.{◌≡◌, ◌<◌, ◌↔◌, ℕ, List, [], ◌∷◌, Some, length, slice_get}
use Rattle.std.specs.List.{All, Contains}

-- A field is a member of a thing, and leads to one.
module _ {F N : Type 0} (of : F → N) (Leads : F → N → Type 0) where
  -- fields that lead from the one to the other
  abbrev pub IsWay : N → List F → N → Type 0
  IsWay n [] m = n ≡ m
  IsWay n (f ∷ fs) m = (of f ≡ n) × ((k : N) × Leads f k × IsWay k fs m)

  -- fields, at least one, that lead from something back to it
  pub record IsNamedCircle (fs : List F) : Type 0 where
    pub node : N
    pub way : IsWay node fs node
    pub some : 0 < length fs

  -- no two fields are of one thing
  abbrev pub IsSimpleNamed : List F → Type 0
  IsSimpleNamed fs = (i j : ℕ) (f g : F) → slice_get fs i ≡ Some f → slice_get fs j ≡ Some g → of f ≡ of g → i ≡ j

  -- no field is of something before that of this one
  abbrev pub IsFirstNamed : (N → N → Type 0) → F → List F → Type 0
  IsFirstNamed NotAfter f fs = All (λ g. NotAfter (of f) (of g)) fs

  -- the first field is of the first of the things
  abbrev pub BeginsFirstNamed : (N → N → Type 0) → List F → Type 0
  BeginsFirstNamed NotAfter [] = Unit {0}
  BeginsFirstNamed NotAfter (f ∷ fs) = IsFirstNamed NotAfter f (f ∷ fs)

  -- Each is a circle that passes nothing twice and begins at its first thing, and each circle has a field of one of
  -- them. There is none if and only if nothing leads back to itself.
  pub record FindsNamedCircles (NotAfter : N → N → Type 0) (told : List (List F)) : Type 0 where
    pub real : All IsNamedCircle told
    pub simple : All IsSimpleNamed told
    pub first : All (BeginsFirstNamed NotAfter) told
    pub enough : (fs : List F) → IsNamedCircle fs → (f : F) × Contains fs f × ((c : List F) × Contains told c × Contains c f)
    pub none : (told ≡ []) ↔ ((fs : List F) → IsNamedCircle fs → ⊥)
