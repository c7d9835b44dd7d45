-- The places of definitions in a document.
use Rattle.std.specs.Prelude.{ℕ, ◌+◌, ◌<◌, ◌≡◌, ◌≢◌, List, [], ◌∷◌, ◌++◌, length, slice_get, Bool, Vec, if◌then◌else◌}
use Rattle.std.specs.Option.{option_map_or}
use Rattle.std.specs.declared.alloc.Global.{Global}
use Rattle.language.specs.declared.tree.Definition.{Definition}
use Rattle.fragment_reach.specs.Reach.{ScopeName}
use Rattle.operation_scopes.specs.Scopes.{same_scope, scope_of}

-- The places in the list of a number.
abbrev pub numbered_places : List (Vec ℕ Global) → ℕ → List ℕ
numbered_places lists number = option_map_or (λ v. v.items) (slice_get lists number) []

-- A place was added to the list of a number, if there is one.
pub record AddsAt (number place : ℕ) (old new : List (Vec ℕ Global)) : Type 0 where
  pub added : number < length old → numbered_places new number ≡ numbered_places old number ++ place ∷ []
  pub others : (k : ℕ) → k ≢ number → numbered_places new k ≡ numbered_places old k
  pub sized : length new ≡ length old

-- The places of the items that pass a test, ascending; the place of the first item is given.
abbrev pub places_from : {X : Type 0} → (X → Bool) → ℕ → List X → List ℕ
places_from test i [] = []
places_from test i (x ∷ xs) = (if test x then i ∷ [] else []) ++ places_from test (i + 1) xs

-- The places of a scope's definitions.
abbrev pub places_of : {S : Type 0} → List (Definition S) → ScopeName → List ℕ
places_of document s = places_from (λ d. same_scope (scope_of d) s) 0 document
