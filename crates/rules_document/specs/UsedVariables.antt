-- Which variables operations use and define (sections 5.8.3 and 5.8.4).
use Rattle.std.specs.Prelude.{ℕ, List, Option, map}
use Rattle.std.specs.List.{Contains}
use Rattle.language_types.specs.Position.{Placed}
use Rattle.language.specs.declared.tree.Definition.{Definition}
use Rattle.language.specs.declared.tree.Operation.{Operation}
use Rattle.fragment_reach.specs.Reach.{Reach}
use Rattle.operation_scopes.specs.Scopes.{IsLastOf, scope_of}
use Rattle.variable_usages.specs.Names.{defined_names}
use Rattle.variable_usages.specs.Uses.{definition_uses}

module _ {S : Type 0} (document : List (Definition S)) where
  -- the operations of a name reach a definition that uses the variable
  abbrev pub IsUsed : Option (List ℕ) → List ℕ → Type 0
  IsUsed name variable =
      (d : Definition S) × Contains document d × Reach document name (scope_of d)
      × Contains (map (λ u. u.name) (definition_uses d)) variable

  -- each variable that the operations of a name use is one that the last of them defines
  abbrev pub AllDefined : Type 0
  AllDefined = (name : Option (List ℕ)) (last : Placed (Operation S)) (variable : List ℕ) → IsLastOf document name last
      → IsUsed name variable → Contains (defined_names last) variable

  -- and each that the last of them defines is one that they use
  abbrev pub AllUsed : Type 0
  AllUsed = (name : Option (List ℕ)) (last : Placed (Operation S)) (variable : List ℕ) → IsLastOf document name last
      → Contains (defined_names last) variable → IsUsed name variable
