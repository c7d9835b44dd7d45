-- Fields that ask for the schema itself (section 4.1).
use Rattle.std.specs.Prelude.{◌≡◌, ℕ, List, [], ◌∷◌, ◌++◌, Bool, false, ◌||◌, if◌then◌else◌, codes}
use Rattle.std.specs.Str.{bytes_eq}
use Rattle.walk.specs.ContextState.{DocumentScope}
use Rattle.walk.specs.ErrorValue.{ErrorValue}
use Rattle.events.specs.Node.{Node, Name, field}
use Rattle.events.specs.Occurrence.{Occurrence}

abbrev pub introspection_message : List ℕ → List ℕ
introspection_message name = (codes "GraphQL introspection is not allowed, but the operation contained `" ++ name) ++ codes "`"

-- `__schema` and `__type`
abbrev pub is_introspection : List ℕ → Bool
is_introspection name = bytes_eq name (codes "__schema") || bytes_eq name (codes "__type")

-- a field of this name is reported, at its name
abbrev pub introspection_field : Name → List ErrorValue
introspection_field name =
    if is_introspection name.item.now then record
    { locations = name.span.start ∷ []; message = introspection_message name.item.now } ∷ [] else []

-- at a node: a field, by its name
abbrev pub introspection_at : {S : Type 0} → Node S → List ErrorValue
introspection_at (field f) = introspection_field f.item.name
introspection_at _ = []

-- at a field: its name, if it is `__schema` or `__type`
abbrev pub introspection_fields : {S C : Type 0} → DocumentScope S C → Occurrence S C → List ErrorValue
introspection_fields scope o = introspection_at o.node

-- at a node: a field does not ask for the schema
abbrev pub AsksNoSchema : {S : Type 0} → Node S → Type 0
AsksNoSchema (field f) = is_introspection f.item.name.item.now ≡ false
AsksNoSchema _ = Unit {0}
