-- Scopes of a document, and which of them an operation reaches (section 5.5.1.4).
use Rattle.std.specs.Prelude.{ℕ, List, [], Option, Some, None, Bool, true, false, option_map, if◌then◌else◌}
use Rattle.std.specs.List.{Contains, flat_map}
use Rattle.std.specs.Option.{option_eq}
use Rattle.std.specs.Str.{bytes_eq}
use Rattle.language.specs.declared.tree.Definition.{Definition}
use Rattle.language.specs.declared.tree.Definition.TheVariants as definition
use Rattle.fragment_graph.specs.Spreads.{PlacedSpread, PlacedSpreads, placed_spreads_of_all, spreads_of_name}

-- The operations of one name, or those without one; or the definitions of a fragment.
pub data ScopeName : Type 0 where
  operation : Option (List ℕ) → ScopeName
  fragment : List ℕ → ScopeName

-- Both have one name, or neither has a name.
abbrev pub same_name : Option (List ℕ) → Option (List ℕ) → Bool
same_name = option_eq bytes_eq

module _ {S : Type 0} where
  -- The spreads inside an operation.
  abbrev pub definition_spreads : Definition S → PlacedSpreads
  definition_spreads (definition.Operation o) = placed_spreads_of_all o.item.selection_set.items
  definition_spreads (definition.Fragment f) = []

  -- Those inside all operations.
  abbrev pub operation_spreads : List (Definition S) → PlacedSpreads
  operation_spreads document = flat_map definition_spreads document

  -- Those of a definition, if it is an operation of the name.
  abbrev pub operation_named : Option (List ℕ) → Definition S → PlacedSpreads
  operation_named name (definition.Operation o) =
      if same_name (option_map (λ n. n.item.now) o.item.name) name then placed_spreads_of_all o.item.selection_set.items
      else []
  operation_named name (definition.Fragment f) = []

  -- Those of all definitions that share a scope, at any depth.
  abbrev pub scope_spreads : List (Definition S) → ScopeName → PlacedSpreads
  scope_spreads document (operation name) = flat_map (operation_named name) document
  scope_spreads document (fragment name) = spreads_of_name document name

  -- The least set that holds an operation's scope and, with a scope, the fragment of every name that it spreads.
  pub data Reach (document : List (Definition S)) (name : Option (List ℕ)) : ScopeName → Type 0 where
    start : Reach document name (operation name)
    onward : {s : ScopeName} → Reach document name s → (x : PlacedSpread) → Contains (scope_spreads document s) x
        → Reach document name (fragment x.name)

  -- Some operation reaches the fragment.
  abbrev pub IsReached : List (Definition S) → List ℕ → Type 0
  IsReached document f = (name : Option (List ℕ)) × Reach document name (fragment f)
