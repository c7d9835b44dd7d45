-- The variables in the values of a definition, where a type is expected (section 5.8.5).
use Rattle.std.specs.Prelude.{ℕ, List, [], ◌∷◌, Option, Some, None}
use Rattle.std.specs.List.{flat_map}
use Rattle.language_types.specs.Types.{TypeShape, borrowed_shape}
use Rattle.language_types.specs.declared.position.SourcePosition.{SourcePosition}
use Rattle.language.specs.declared.tree.Definition.{Definition}
use Rattle.schema.specs.Catalog.{Catalog}
use Rattle.walk.specs.ContextState.{DocumentScope}
use Rattle.events.specs.Node.{Node, variable_value}
use Rattle.events.specs.Occurrence.{Occurrence, occurrences_in}
use Rattle.events.specs.Typing.{Typing}
use Rattle.rules_positions.specs.JudgedUses.{values_in}
use Rattle.rules_positions.specs.RecordedUses.{next_recorded}
use Rattle.rules_positions.specs.declared.typed_uses.TypedUse.{TypedUse}
use Rattle.std.specs.declared.vec.Vec.{Vec}
use Rattle.std.specs.declared.alloc.Global.{Global}

-- a variable, where it stands, and the type that is expected there
pub record UseValue : Type 0 where
  pub variable : List ℕ
  pub place : SourcePosition
  pub expected : TypeShape

-- a variable at a place, if a type is expected there
abbrev pub use_expected : List ℕ → SourcePosition → Option TypeShape → List UseValue
use_expected variable place None = []
use_expected variable place (Some t) = record { variable = variable; place = place; expected = t } ∷ []

module _ {S : Type 0} where
  -- a variable, if a type is expected where it stands
  abbrev pub use_at : Node S → Option TypeShape → List UseValue
  use_at (variable_value v) expected = use_expected v.item v.span.start expected
  use_at _ expected = []

module _ {S C : Type 0} where
  -- at a node of a document
  abbrev pub uses_at : Catalog S C → Occurrence S C → List UseValue
  uses_at schema o = use_at o.node o.types.input

  -- the uses in a definition: those in default values, in arguments of fields and in arguments of directives
  abbrev pub typed_uses : Catalog S C → Typing S C → Definition S → List UseValue
  typed_uses schema t d = flat_map (uses_at schema) (occurrences_in schema t d)

  -- a list more at each definition, and a use more in the last list
  abbrev pub next_uses : DocumentScope S C → Occurrence S C → List (List UseValue) → List (List UseValue)
  next_uses = next_recorded uses_at

abbrev pub use_value : TypedUse → UseValue
use_value u = record { variable = u.variable.now; place = u.place; expected = borrowed_shape u.expected }

abbrev pub use_values : List (Vec TypedUse Global) → List (List UseValue)
use_values = values_in use_value
