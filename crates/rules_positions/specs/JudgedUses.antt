-- The uses of variables in a document, each judged by the first definition of its variable (section 5.8.5). How, the
-- rule says.
use Rattle.std.specs.Prelude.{◌≡◌, ℕ, List, [], Option, None, Some, map, slice_get}
use Rattle.std.specs.Option.{unwrap_or}
use Rattle.std.specs.declared.alloc.Global.{Global}
use Rattle.std.specs.declared.vec.Vec.{Vec}
use Rattle.language.specs.declared.tree.Definition.{Definition}
use Rattle.meta.specs.declared.kinds.MetaTypeOf.{MetaTypeOf}
use Rattle.events.specs.Node.{VariableEntry}
use Rattle.walk.specs.Entering.{EachGives}
use Rattle.walk.specs.ErrorValue.{ErrorValue}
use Rattle.operation_scopes.specs.Scopes.{InReach, OperationNames}
use Rattle.rules_positions.specs.DefinedVariables.{first_of, variables_of}

-- what may be reported of a use, by the types of the schema and the definition of its variable
abbrev pub Judgement : Type 0 → Type 0 → Type 0 → Type 1
Judgement S C U = List (MetaTypeOf S C) → VariableEntry S → U → List ErrorValue → Type 0

-- the uses that are kept in lists, one for each definition
abbrev pub values_in : {R U : Type 0} → (R → U) → List (Vec R Global) → List (List U)
values_in value lists = map (λ us. map value us.items) lists

-- the uses in the definition at a place
abbrev pub uses_in : {U : Type 0} → List (List U) → ℕ → List U
uses_in uses place = unwrap_or (slice_get uses place) []

module _ {S C U : Type 0} (judged : Judgement S C U) (types : List (MetaTypeOf S C)) where
  -- a variable that is not defined is not judged
  abbrev pub JudgedIfDefined : Option (VariableEntry S) → U → List ErrorValue → Type 0
  JudgedIfDefined None u es = es ≡ []
  JudgedIfDefined (Some d) u es = judged types d u es

module _ {S C U : Type 0} (variable_of : U → List ℕ) (judged : Judgement S C U) (types : List (MetaTypeOf S C)) where
  -- each use in a definition, by what is known of the variables
  abbrev pub UsesGive : (List ℕ → Option (VariableEntry S)) → List U → List ErrorValue → Type 0
  UsesGive known us es = EachGives (λ u fs. JudgedIfDefined judged types (known (variable_of u)) u fs) us es

  module _ (document : List (Definition S)) (uses : List (List U)) where
    -- the operations of a name: each use in each definition that they reach, by the first definition of its variable in
    -- all of them
    abbrev pub OperationsGive : Option (List ℕ) → List ErrorValue → Type 0
    OperationsGive name es =
        (places : List ℕ) × InReach document name places
        × EachGives (λ place fs. UsesGive (first_of (variables_of document name)) (uses_in uses place) fs) places es

    -- the operations of each name, in some order
    abbrev pub DocumentGives : List ErrorValue → Type 0
    DocumentGives es = (names : List (Option (List ℕ))) × OperationNames document names × EachGives OperationsGive names es
