-- Subscriptions that don't select exactly one field at the root (section 5.2.3.1).
use Rattle.std.specs.Prelude.{◌≡◌, ℕ, List, [], ◌∷◌, ◌++◌, Bool, true, false, not, nat_eq, Option, Some, None, map}
use Rattle.std.specs.Prelude.{option_and_then, codes}
use Rattle.std.specs.List.{All, filter, starts_with}
use Rattle.std.specs.Option.{option_map_or}
use Rattle.std.specs.Str.{bytes_eq}
use Rattle.language_types.specs.declared.position.SourcePosition.{SourcePosition}
use Rattle.language.specs.declared.tree.Definition.{Definition}
use Rattle.language.specs.declared.tree.Definition.TheVariants as definition
use Rattle.language.specs.declared.tree.Field.{Field}
use Rattle.language.specs.declared.tree.Operation.{Operation}
use Rattle.language.specs.declared.tree.OperationType.{OperationType}
use Rattle.language.specs.declared.tree.OperationType.TheVariants as kind
use Rattle.meta.specs.Kinds.{name_of_meta}
use Rattle.schema.specs.Catalog.{Catalog, root_type}
use Rattle.events.specs.Node.{Name, Placed}
use Rattle.walk.specs.ContextState.{DocumentScope}
use Rattle.walk.specs.ErrorValue.{ErrorValue}
use Rattle.rules_specified.specs.Collected.{Collects}

abbrev pub none_text : List ℕ
none_text = codes " must select a top level field"

abbrev pub several_text : List ℕ
several_text = codes " must select only one top level field"

abbrev pub introspection_text : List ℕ
introspection_text = codes " must not select an introspection top level field"

-- a message of an operation, which may have a name
abbrev pub message : List ℕ → Option Name → List ℕ
message text None = codes "Anonymous Subscription" ++ text
message text (Some name) = codes "Subscription \"" ++ (name.item.now ++ (codes "\"" ++ text))

-- one error at these places, if there are any
abbrev pub at_places : List ℕ → List SourcePosition → List ErrorValue
at_places text [] = []
at_places text (p ∷ ps) = record { locations = p ∷ ps; message = text } ∷ []

abbrev pub is_of_subscription : OperationType → Bool
is_of_subscription kind.Subscription = true
is_of_subscription _ = false

module _ {S : Type 0} where
  -- the alias of a field, or its name
  abbrev pub response_name : Field S → List ℕ
  response_name f = option_map_or (λ n. n.item.now) f.alias f.name.item.now

  -- a field of introspection, whatever its alias
  abbrev pub is_introspection : Field S → Bool
  is_introspection f = starts_with nat_eq f.name.item.now (codes "__")

  -- the response name is another than this one
  abbrev pub has_other_name : List ℕ → Placed (Field S) → Bool
  has_other_name name f = not (bytes_eq name (response_name f.item))

  -- the fields whose response name is not that of the first
  abbrev pub others : List (Placed (Field S)) → List (Placed (Field S))
  others [] = []
  others (f ∷ fs) = filter (has_other_name (response_name f.item)) (f ∷ fs)

  abbrev pub introspections : List (Placed (Field S)) → List (Placed (Field S))
  introspections fs = filter (λ f. is_introspection f.item) fs

  abbrev pub places : List (Placed (Field S)) → List SourcePosition
  places fs = map (λ f. f.span.start) fs

  -- what is reported of a subscription, by the fields that are collected at its root
  abbrev pub root_errors : Placed (Operation S) → List (Placed (Field S)) → List ErrorValue
  root_errors o [] = at_places (message none_text o.item.name) (o.span.start ∷ [])
  root_errors o (f ∷ fs) = at_places (message several_text o.item.name) (places (others (f ∷ fs)))
      ++ at_places (message introspection_text o.item.name) (places (introspections (f ∷ fs)))

  -- there is a field, all have one response name, and none is of introspection
  abbrev pub IsSingle : List (Placed (Field S)) → Type 0
  IsSingle [] = ⊥
  IsSingle (f ∷ fs) = All (λ g. has_other_name (response_name f.item) g ≡ false) (f ∷ fs)
      × All (λ g. is_introspection g.item ≡ false) (f ∷ fs)

  abbrev pub is_subscription : Definition S → Bool
  is_subscription (definition.Operation o) = is_of_subscription o.item.operation_type
  is_subscription (definition.Fragment f) = false

  module _ {C : Type 0} where
    -- the name of the root of subscriptions, where the schema has one
    abbrev pub root_name : Catalog S C → Option (List ℕ)
    root_name schema = option_and_then name_of_meta (root_type schema kind.Subscription)

  module _ {C : Type 0} (truth : S → Option Bool) (schema : Catalog S C) (document : List (Definition S)) where
    -- these fields are collected at the root of an operation
    abbrev pub AreCollected : List ℕ → Placed (Operation S) → List (Placed (Field S)) → Type 0
    AreCollected root o fs = (after : List (List ℕ)) × Collects truth schema document root [] o.item.selection_set.items fs after

    abbrev pub TellsRoot : Option (List ℕ) → OperationType → Placed (Operation S) → List ErrorValue → Type 0
    TellsRoot (Some root) kind.Subscription o es = (fs : List (Placed (Field S))) × AreCollected root o fs × (es ≡ root_errors o fs)
    TellsRoot _ _ o es = es ≡ []

    -- what is reported of a definition: of a subscription, where the schema has a root for it
    abbrev pub Tells : Definition S → List ErrorValue → Type 0
    Tells (definition.Operation o) es = TellsRoot (root_name schema) o.item.operation_type o es
    Tells (definition.Fragment f) es = es ≡ []

    -- of each of some definitions in turn
    abbrev pub TellsEach : List (Definition S) → List ErrorValue → Type 0
    TellsEach [] es = es ≡ []
    TellsEach (d ∷ ds) es = (first : List ErrorValue) × (rest : List ErrorValue) × Tells d first × TellsEach ds rest × (es ≡ first ++ rest)

    abbrev pub IsSingleRoot : Option (List ℕ) → OperationType → Placed (Operation S) → Type 0
    IsSingleRoot (Some root) kind.Subscription o = (fs : List (Placed (Field S))) × AreCollected root o fs × IsSingle fs
    IsSingleRoot _ _ o = Unit {0}

    -- a subscription selects exactly one field at its root, where the schema has a root for it
    abbrev pub SelectsOne : Definition S → Type 0
    SelectsOne (definition.Operation o) = IsSingleRoot (root_name schema) o.item.operation_type o
    SelectsOne (definition.Fragment f) = Unit {0}

-- what is reported of a document, and what is asked of it
module _ {S C : Type 0} (truth : S → Option Bool) where
  abbrev pub single_root_errors : {V : Type 0} → DocumentScope S C → List (Definition S) → V → List ErrorValue → Type 0
  single_root_errors scope document end es = TellsEach truth scope.schema document document es

  abbrev pub SelectOne : DocumentScope S C → List (Definition S) → Type 0
  SelectOne scope document = All (SelectsOne truth scope.schema document) document
