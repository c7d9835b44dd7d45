-- Variables that are used where they are not defined (section 5.8.3).
use Rattle.std.specs.Prelude.{◌≡◌, ℕ, List, [], ◌∷◌, ◌++◌, Bool, Option, Some, Vec, option_map, slice_get, if◌then◌else◌}
use Rattle.std.specs.List.{flat_map}
use Rattle.std.specs.declared.alloc.Global.{Global}
use Rattle.language_types.specs.declared.position.SourcePosition.{SourcePosition}
use Rattle.language_types.specs.declared.position.Span.{Span}
use Rattle.language_types.specs.declared.position.Spanning.{Spanning}
use Rattle.language.specs.declared.tree.Definition.{Definition}
use Rattle.language.specs.declared.tree.Operation.{Operation}
use Rattle.operation_scopes.specs.declared.index.ScopeIndex.{ScopeIndex}
use Rattle.operation_scopes.specs.Index.{operation_names}
use Rattle.operation_scopes.specs.Scopes.{IsLastOf, OperationNames}
use Rattle.variable_usages.specs.declared.undefined.UndefinedVariable.{UndefinedVariable}
use Rattle.variable_usages.specs.InReachUses.{InTurn, UsedIn, kept_uses}
use Rattle.variable_usages.specs.Names.{defined_names, is_among}
use Rattle.variable_usages.specs.Uses.{Use, Uses, use_of}
use Rattle.variable_usages.specs.declared.uses.VariableUse.{VariableUse}

-- A variable, the name of the operation that does not define it, the start of the argument value that uses it, and the
-- start of the operation.
pub record Undefined : Type 0 where
  pub name : List ℕ
  pub operation : Option (List ℕ)
  pub place : SourcePosition
  pub operation_place : SourcePosition

abbrev pub undefined_of : UndefinedVariable → Undefined
undefined_of u = record {
  name = u.name.now;
  operation = option_map (λ n. n.now) u.operation;
  place = u.place;
  operation_place = u.operation_place;
}

-- The report of a use, if its variable is not defined.
abbrev pub told_undefined : (List ℕ → Bool) → Option (List ℕ) → SourcePosition → Use → List Undefined
told_undefined defined operation start u =
    if defined u.name then [] else record { name = u.name; operation = operation; place = u.place; operation_place = start } ∷ []

-- A use was reported, if its variable is not defined.
pub record TellsUndefined (defined : List ℕ → Bool) (operation : Option (List ℕ)) (start : SourcePosition)
    (u : VariableUse) (old new : List Undefined) : Type 0 where
  pub told : new ≡ old ++ told_undefined defined operation start (use_of u)

-- No definition uses a variable.
abbrev pub UsesNothing : List (Vec VariableUse Global) → Type 0
UsesNothing all = (k : ℕ) → kept_uses all k ≡ []

module _ {S : Type 0} where
  -- For the operations of a name: each use in their reach whose variable the last of them does not define.
  pub record UndefinedIn (document : List (Definition S)) (name : Option (List ℕ)) (found : List Undefined) : Type 0 where
    pub last : Spanning (Operation S) Span
    pub is_last : IsLastOf document name last
    pub uses : Uses
    pub used : UsedIn document name uses
    pub told : found ≡ flat_map (told_undefined (is_among (defined_names last)) name last.span.start) uses

  -- Those of the name with this number in the index.
  abbrev pub UndefinedNumbered : List (Definition S) → ScopeIndex → ℕ → List Undefined → Type 0
  UndefinedNumbered document scopes number found =
      (name : Option (List ℕ)) × (slice_get (operation_names scopes) number ≡ Some name) × UndefinedIn document name found

  -- Those of each name of operations.
  abbrev pub UndefinedVariables : List (Definition S) → List Undefined → Type 0
  UndefinedVariables document found =
      (names : List (Option (List ℕ))) × OperationNames document names × InTurn (UndefinedIn document) names found
