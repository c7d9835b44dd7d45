-- Variables that are defined and not used (section 5.8.4).
use Rattle.std.specs.Prelude.{◌≡◌, ◌≤◌, ◌↔◌, ◌⊎◌, ℕ, List, [], ◌∷◌, ◌++◌, Bool, true, false, Option, option_map, map}
use Rattle.std.specs.List.{Contains}
use denote.Ref.{Bor}
use Rattle.language_types.specs.Position.{index_of}
use Rattle.language_types.specs.declared.position.Span.{Span}
use Rattle.language_types.specs.declared.position.Spanning.{Spanning}
use Rattle.language.specs.declared.tree.Definition.{Definition}
use Rattle.language.specs.declared.tree.Operation.{Operation}
use Rattle.operation_scopes.specs.Scopes.{IsLastOf, IsOnce, OperationNames}
use Rattle.variable_usages.specs.declared.unused.UnusedVariable.{UnusedVariable}
use Rattle.variable_usages.specs.declared.unused.Variable.{Variable}
use Rattle.variable_usages.specs.InReachUses.{InTurn, UsedIn}
use Rattle.variable_usages.specs.Names.{NameAndSpan, defined_variables, is_among, variable_list}
use Rattle.variable_usages.specs.Uses.{Uses}

-- A variable, its span in its definition, and the name of the operation that defines it.
pub record Unused : Type 0 where
  pub name : List ℕ
  pub span : Span
  pub operation : Option (List ℕ)

abbrev pub unused_of : UnusedVariable → Unused
unused_of u = record { name = u.name.now; span = u.span; operation = option_map (λ n. n.now) u.operation }

-- A variable that operations of a name define and do not use.
abbrev pub unused_by : Option (List ℕ) → NameAndSpan → Unused
unused_by operation v = record { name = v.0; span = v.1; operation = operation }

abbrev pub name_and_span : Variable → NameAndSpan
name_and_span v = (v.name.now, v.span)

abbrev pub variable_at : Spanning (Bor (List ℕ)) Span → NameAndSpan
variable_at v = (v.item.now, v.span)

-- None of these starts after this index.
abbrev pub StartBy : ℕ → List NameAndSpan → Type 0
StartBy latest found = (v : NameAndSpan) → Contains found v → index_of v.1.start ≤ latest

-- Each of these variables whose name is not used, once.
pub record UnusedAmong (used : List ℕ → Bool) (variables found : List NameAndSpan) : Type 0 where
  pub once : IsOnce found
  pub are : (v : NameAndSpan) → Contains found v ↔ (Contains variables v × (used v.0 ≡ false))

-- A variable is added if its name is not used and it is not in the list.
abbrev pub AddsVariable : (List ℕ → Bool) → NameAndSpan → List NameAndSpan → List NameAndSpan → Type 0
AddsVariable used v old new =
    (((used v.0 ≡ true) ⊎ Contains old v) × (new ≡ old)) ⊎ ((used v.0 ≡ false) × (Contains old v → ⊥) × (new ≡ old ++ v ∷ []))

module _ {S : Type 0} where
  -- For the operations of a name: each name and span of a variable that the last of them defines and whose name is not
  -- used in their reach, once.
  pub record UnusedIn (document : List (Definition S)) (name : Option (List ℕ)) (found : List Unused) : Type 0 where
    pub last : Spanning (Operation S) Span
    pub is_last : IsLastOf document name last
    pub uses : Uses
    pub used : UsedIn document name uses
    pub variables : List NameAndSpan
    pub unused : UnusedAmong (is_among (map (λ u. u.name) uses)) (defined_variables last) variables
    pub told : found ≡ map (unused_by name) variables

  -- The last operation of the name defines no variable.
  abbrev pub DefinesNone : List (Definition S) → Option (List ℕ) → Type 0
  DefinesNone document name = (last : Spanning (Operation S) Span) × IsLastOf document name last × (variable_list last ≡ [])

  -- Those of each name of operations.
  abbrev pub UnusedVariables : List (Definition S) → List Unused → Type 0
  UnusedVariables document found = (names : List (Option (List ℕ))) × OperationNames document names × InTurn (UnusedIn document) names found
