-- What is to be said of the fields at a root.
use Rattle.std.specs.Prelude.{◌≡◌, List, [], ◌∷◌, Bool, true, false}
use Rattle.language_types.specs.Position.{Placed}
use Rattle.language.specs.declared.tree.Field.{Field}
use Rattle.rules_specified.specs.SingleRootField.{introspections, others, places}
use Rattle.rules_specified.specs.declared.single_root_field.FoundAtRoot.{FoundAtRoot}

abbrev pub is_none : {X : Type 0} → List X → Bool
is_none [] = true
is_none (x ∷ xs) = false

-- it is found among these fields
pub record IsFound {S : Type 0} (fs : List (Placed (Field S))) (found : FoundAtRoot) : Type 0 where
  pub empty : found.is_empty ≡ is_none fs
  pub others : found.others.items ≡ places (others fs)
  pub introspections : found.introspections.items ≡ places (introspections fs)
