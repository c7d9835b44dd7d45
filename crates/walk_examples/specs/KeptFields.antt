-- The fields of a document.
use Rattle.std.specs.Prelude.{ℕ, List, [], ◌∷◌, ◌++◌, map, length}
use Rattle.language.specs.declared.tree.Definition.{Definition}
use Rattle.language.specs.declared.tree.Field.{Field}
use Rattle.schema.specs.Catalog.{Catalog}
use Rattle.walk.specs.ContextState.{DocumentScope, scope_of}
use Rattle.walk.specs.Entering.{kept_after}
use Rattle.events.specs.Node.{Node, Placed, field}
use Rattle.events.specs.Occurrence.{Occurrence, occurrences}
use Rattle.events.specs.Typing.{Typing, untyped}
use Rattle.walk_examples.specs.declared.kept_fields.KeptFields.{KeptFields}

abbrev pub fields_kept : {S : Type 0} → KeptFields S → List (Placed (Field S))
fields_kept a = map (λ f. f.now) a.fields.items

abbrev pub with_field : {S : Type 0} → Node S → List (Placed (Field S)) → List (Placed (Field S))
with_field (field f) fs = fs ++ f ∷ []
with_field _ fs = fs

-- one more at a field
abbrev pub next_fields : {S C : Type 0} → DocumentScope S C → Occurrence S C → List (Placed (Field S)) → List (Placed (Field S))
next_fields scope o fs = with_field o.node fs

-- the fields of a document, in order
abbrev pub fields_of : {S C : Type 0} → DocumentScope S C → Typing S C → List (Definition S) → List (Placed (Field S))
fields_of scope t doc = kept_after (next_fields scope) [] (occurrences scope.schema t doc)

-- how many fields a document has, where no type stands round it
abbrev pub field_count : {S C : Type 0} → Catalog S C → List (Definition S) → ℕ
field_count schema doc = length (fields_of (scope_of schema doc) untyped doc)
