-- The rows of a value and a type, when its modifiers are taken off.
use Rattle.std.specs.Prelude.{◌≡◌, ◌<◌, ⊤, ℕ, List, [], ◌∷◌, ◌++◌, length, map, is_some, Option, Some, None, reverse}
use Rattle.std.specs.Prelude.{true}
use Rattle.language_types.specs.declared.position.Span.{Span}
use Rattle.language_types.specs.declared.position.Spanning.{Spanning}
use Rattle.language_types.specs.declared.types.TypeModifier.{TypeModifier}
use Rattle.language_types.specs.declared.types.TypeModifier.TheVariants as m
use Rattle.language_values.specs.declared.value.InputValue.{InputValue, out-InputValue}
use Rattle.language_values.specs.declared.value.InputValue.TheOpen as v
use Rattle.language_types.specs.Types.{TypeShape, borrowed_shape, printed}
use Rattle.language_values.specs.Values.{Entry, list_items}
use Rattle.meta.specs.Answers.{Answers, Accepts, RefusesWith}
use Rattle.meta.specs.declared.arguments.Argument.{Argument}
use Rattle.meta.specs.declared.inputs.InputObjectMetaOf.{InputObjectMetaOf}
use Rattle.meta.specs.declared.kinds.MetaTypeOf.{MetaTypeOf}
use Rattle.schema.specs.Catalog.{Catalog, type_in}
use Rattle.variable_values.specs.declared.rows.Row.{Row}
use Rattle.variable_values.specs.declared.rows.Row.TheVariants as r
use Rattle.variable_values.specs.declared.rows.Step.{Step as RowStep}
use Rattle.variable_values.specs.declared.rows.Step.TheVariants as s
use Rattle.variable_values.specs.Faults.{Fault, Faults, Step, AtField, AtFields, OfMeta, OfNamed, OfObject, element}
use Rattle.variable_values.specs.Faults.{here, judge_of, under, wrong_length}
use Rattle.variable_values.specs.InTurn.{InTurn}
use Rattle.variable_values.specs.Inputs.{is_input_in}
use Rattle.variable_values.specs.Texts.{null_text}

-- the names that a row has are the type's
abbrev pub HasName : TypeShape → Row → Type 0
HasName t r.Nothing = ⊤
HasName t (r.Null at) = ⊤
HasName t (r.Items inner size) = (borrowed_shape inner).name ≡ t.name
HasName t (r.Named name) = name.now ≡ t.name

abbrev pub HasStepName : TypeShape → RowStep → Type 0
HasStepName t (s.Decides row) = HasName t row
HasStepName t (s.Passes inner) = (borrowed_shape inner).name ≡ t.name

-- the names that a row has are those of input types
abbrev pub IsKnownRow : {S C : Type 0} → Catalog S C → Row → Type 0
IsKnownRow schema r.Nothing = ⊤
IsKnownRow schema (r.Null at) = ⊤
IsKnownRow schema (r.Items inner size) = is_input_in schema (borrowed_shape inner).name ≡ true
IsKnownRow schema (r.Named name) = is_input_in schema name.now ≡ true

-- only a list is judged by its items
abbrev pub IsListRow : {S : Type 0} → InputValue S → Row → Type 0
IsListRow value (r.Items inner size) = is_some (list_items value) ≡ true
IsListRow value _ = ⊤

abbrev pub IsListStep : {S : Type 0} → InputValue S → RowStep → Type 0
IsListStep value (s.Decides row) = IsListRow value row
IsListStep value (s.Passes inner) = ⊤

-- a type which the value comes to has fewer modifiers
abbrev pub IsShorter : TypeShape → RowStep → Type 0
IsShorter t (s.Decides row) = ⊤
IsShorter t (s.Passes inner) = length (borrowed_shape inner).modifiers < length t.modifiers

-- of one value that stands for a list
abbrev pub length_of_one : TypeModifier → List Fault
length_of_one m.NonNull = []
length_of_one (m.List size) = wrong_length size 1

-- of one value that stands for lists, by the modifiers round its type, outermost first: each length that isn't 1
abbrev pub lengths_of_one : List TypeModifier → List Fault
lengths_of_one [] = []
lengths_of_one (m.NonNull ∷ ms) = lengths_of_one ms
lengths_of_one (m.List size ∷ ms) = wrong_length size 1 ++ lengths_of_one ms

-- null and a list stand for themselves
abbrev pub lengths_at : {S : Type 0} → v.InputValue-F S (InputValue S) → TypeShape → List Fault
lengths_at v.Null t = []
lengths_at (v.List xs) t = []
lengths_at x t = lengths_of_one (reverse t.modifiers)

-- the length faults of a value that stands for lists of one
abbrev pub lengths_of : {S : Type 0} → InputValue S → TypeShape → List Fault
lengths_of {S} value t = lengths_at (out-InputValue S value) t

-- what a check has answered: that it accepts, or why it refuses
abbrev pub Answered : {S C : Type 0} → Answers (InputValue S) C → C → InputValue S → Option (List ℕ) → Type 0
Answered may c value None = Accepts may c value
Answered may c value (Some why) = RefusesWith may c value why

-- the schema has the metadata under some name
abbrev pub IsIn : {S C : Type 0} → Catalog S C → MetaTypeOf S C → Type 0
IsIn schema meta = (name : List ℕ) × (type_in name schema ≡ Some meta)

module _ {S C : Type 0} (schema : Catalog S C) (may : Answers (InputValue S) C) (text : S → List ℕ) (str_of : S → Option (List ℕ)) where
  -- those of a value one step down
  abbrev pub Below : Step → TypeShape → InputValue S → List Fault → Type 0
  Below step t value fs = (gs : List Fault) × Faults schema may text str_of value t gs × (fs ≡ map (under step) gs)

  -- those of the items of a list
  abbrev pub OfItems : TypeShape → List (Spanning (InputValue S) Span) → List Fault → Type 0
  OfItems t xs fs = InTurn (λ i x. Below (element i) t x.item) 0 xs fs

  -- those at an input field, and at all of them
  abbrev pub OfField : Argument S → Option (InputValue S) → List Fault → Type 0
  OfField = AtField schema may text str_of (λ y. y) (judge_of schema may text str_of)

  abbrev pub OfFields : List (Argument S) → List (Entry (InputValue S)) → List Fault → Type 0
  OfFields = AtFields schema may text str_of (λ y. y) (judge_of schema may text str_of)

  abbrev pub OfWhole : InputObjectMetaOf S C → List (Entry (InputValue S)) → InputValue S → List Fault → Type 0
  OfWhole = OfObject schema may text str_of (λ y. y) (judge_of schema may text str_of)

  -- those of a value, by its one level, against metadata, and against what a name may stand for
  abbrev pub ByMeta : InputValue S → MetaTypeOf S C → List Fault → Type 0
  ByMeta value meta fs = OfMeta schema may text str_of (λ y. y) (judge_of schema may text str_of) (out-InputValue S value) value meta fs

  abbrev pub ByName : InputValue S → Option (MetaTypeOf S C) → List Fault → Type 0
  ByName value meta fs = OfNamed schema may text str_of (λ y. y) (judge_of schema may text str_of) (out-InputValue S value) value meta fs

  -- those of a list
  abbrev pub SaysItems : Option (List (Spanning (InputValue S) Span)) → TypeShape → Option ℕ → List Fault → Type 0
  SaysItems None inner size fs = ⊥
  SaysItems (Some xs) inner size fs = (gs : List Fault) × OfItems inner xs gs × (fs ≡ wrong_length size (length xs) ++ gs)

  -- what the row says of the value's faults
  abbrev pub Says : InputValue S → Row → List Fault → Type 0
  Says value r.Nothing fs = fs ≡ []
  Says value (r.Null at) fs = fs ≡ here (null_text (printed (borrowed_shape at))) ∷ []
  Says value (r.Items inner size) fs = SaysItems (list_items value) (borrowed_shape inner) size fs
  Says value (r.Named name) fs = ByName value (type_in name.now schema) fs

  -- the value's other faults, behind those of the length
  abbrev pub Others : InputValue S → TypeShape → List Fault → Type 0
  Others value t fs = Faults schema may text str_of value t (lengths_of value t ++ fs)

  -- what the row says is that
  abbrev pub IsRowOf : InputValue S → TypeShape → Row → List Fault → Type 0
  IsRowOf value t row fs = Says value row fs → Others value t fs

  -- and its faults against the type which it comes to are those against the whole type
  abbrev pub IsStepOf : InputValue S → TypeShape → RowStep → List Fault → Type 0
  IsStepOf value t (s.Decides row) fs = IsRowOf value t row fs
  IsStepOf value t (s.Passes inner) fs = Others value (borrowed_shape inner) fs → Others value t fs
