-- The lists and objects around a value that is checked, and what is left of them.
use Rattle.std.specs.Prelude.{◌≡◌, ◌⊎◌, ℕ, List, [], ◌∷◌, ◌++◌, length, reverse, drop, map, Option, Some, None, String}
use Rattle.std.specs.Prelude.{Vec, string_bytes, true}
use Rattle.std.specs.declared.alloc.Global.{Global}
use Rattle.language_values.specs.declared.value.InputValue.{InputValue}
use Rattle.language_types.specs.Types.{borrowed_shape, shape}
use Rattle.language_values.specs.Values.{Entry, last_value}
use Rattle.language_values.specs.ValuesPrinted.{printed_value}
use Rattle.meta.specs.Answers.{Answers}
use Rattle.meta.specs.Kept.{input_object_check}
use Rattle.meta.specs.declared.arguments.Argument.{Argument}
use Rattle.meta.specs.declared.inputs.InputObjectMetaOf.{InputObjectMetaOf}
use Rattle.meta.specs.declared.kinds.MetaTypeOf.TheVariants as k
use Rattle.schema.specs.Catalog.{Catalog}
use Rattle.variable_values.specs.declared.begun.Begun.{Begun}
use Rattle.variable_values.specs.declared.begun.Begun.TheVariants as b
use Rattle.variable_values.specs.declared.begun.BegunObject.{BegunObject}
use Rattle.variable_values.specs.declared.place.PathStep.{PathStep}
use Rattle.variable_values.specs.declared.place.Place.{Place}
use Rattle.variable_values.specs.Entries.{HasPlaces}
use Rattle.variable_values.specs.Faults.{Checked, Fault, Faults, element, left_out, unknown_field}
use Rattle.variable_values.specs.Inputs.{is_input_in}
use Rattle.variable_values.specs.InTurn.{InTurn}
use Rattle.variable_values.specs.Keys.{field_names, keys_of, unknown_keys}
use Rattle.variable_values.specs.Messages.{Adds, texts_of, told_after}
use Rattle.variable_values.specs.Places.{before, before_path}
use Rattle.variable_values.specs.Rows.{Below, IsIn, OfField}
use Rattle.variable_values.specs.Texts.{input_text}

-- from one list of messages to another
abbrev pub Telling : Type 1
Telling = List (List ℕ) → List (List ℕ) → Type 0

abbrev pub all_but_first : {A : Type 0} → List A → List A
all_but_first [] = []
all_but_first (x ∷ xs) = xs

module _ {S C : Type 0} where
  -- what is begun is this object, where there are so many messages
  abbrev pub IsBegunOf : InputObjectMetaOf S C → InputValue S → List (Entry (InputValue S)) → ℕ → BegunObject S C → Type 0
  IsBegunOf o value es told of = (of.object.now ≡ o) × (of.value.now ≡ value) × (of.entries.now ≡ es) × (of.told ≡ told)

  -- the types of the part are input types of the schema, and it has the places of its keys
  abbrev pub IsKnown : Catalog S C → Begun S C → Type 0
  IsKnown schema (b.Items inner items next) = is_input_in schema (borrowed_shape inner).name ≡ true
  IsKnown schema (b.Fields of next) = IsIn schema (k.InputObject of.object.now) × HasPlaces of.places of.entries.now

  module _ (may : Answers (InputValue S) C) (text : S → List ℕ) (str_of : S → Option (List ℕ)) where
    -- what is told of an object where those of its check come last, and only where nothing else is told of it
    abbrev pub ByCheck : BegunObject S C → List ℕ → Telling
    ByCheck of before mid new =
        ((length mid ≡ of.told) × Adds (Checked may (input_object_check of.object.now) of.value.now
        (input_text (string_bytes of.object.now.name) (printed_value text str_of of.value.now)) []) before mid new)
        ⊎ ((length mid ≡ of.told → ⊥) × (new ≡ mid))

    -- what is told of an object behind the faults of its fields
    abbrev pub EndsObject : BegunObject S C → List ℕ → Telling
    EndsObject of before old new =
        (mid : List (List ℕ)) × (mid ≡ old ++ map (told_after before)
        (map unknown_field (unknown_keys (field_names of.object.now.input_fields.items) (keys_of of.entries.now))))
        × ByCheck of before mid new

  module _ (schema : Catalog S C) (may : Answers (InputValue S) C) (text : S → List ℕ) (str_of : S → Option (List ℕ)) where
    -- the faults of the items of a list from one on, and of the fields of an object
    abbrev pub LeftItems : Begun S C → List Fault → Type 0
    LeftItems (b.Items inner items next) fs =
        InTurn (λ i x. Below schema may text str_of (element i) (borrowed_shape inner) x.item) next
        (drop next items.now) fs
    LeftItems (b.Fields of next) fs =
        InTurn (λ i a. OfField schema may text str_of a (last_value (string_bytes a.name) of.entries.now)) next
        (drop next of.object.now.input_fields.items) fs

    -- the faults at a field by its value, if it has one
    abbrev pub OfGiven : Option (InputValue S) → Argument S → List Fault → Type 0
    OfGiven None a fs = fs ≡ left_out schema a
    OfGiven (Some value) a fs = Faults schema may text str_of value (shape a.arg_type) fs

    -- what is told of what is left of a part at a place
    abbrev pub Left : Begun S C → List ℕ → Telling
    Left (b.Items inner items next) before old new = Adds (LeftItems (b.Items inner items next)) before old new
    Left (b.Fields of next) before old new =
        (mid : List (List ℕ)) × Adds (LeftItems (b.Fields of next)) before old mid
        × EndsObject may text str_of of before mid new

    -- what is told of a value of which this is left, if anything is
    abbrev pub LeftOf : Option (Begun S C) → List ℕ → Telling
    LeftOf None before now end = now ≡ end
    LeftOf (Some part) before now end = Left part before now end

    -- who tells what is left has told the faults of which P holds
    abbrev pub BeginsAt : (List Fault → Type 0) → Place → Option (Begun S C) → Vec (String Global) Global
        → Vec (String Global) Global → Type 0
    BeginsAt P place part old new =
        (end : List (List ℕ)) → LeftOf part (before place) (texts_of new) end → Adds P (before place) (texts_of old) end

    module _ (variable : List ℕ) where
      -- what is told of what is left of parts, innermost first, the steps to the first one given in that order
      abbrev pub LeftOfAll : List (Begun S C) → List PathStep → Telling
      LeftOfAll [] steps now end = now ≡ end
      LeftOfAll (p ∷ ps) steps now end =
          (mid : List (List ℕ)) × Left p (before_path variable (reverse steps)) now mid
          × LeftOfAll ps (all_but_first steps) mid end

      -- who tells what is left of the new parts has told this, and then what is left of the old ones
      abbrev pub Leads : List (Begun S C) → List PathStep → List (List ℕ) → Telling → List (Begun S C) → List PathStep
          → List (List ℕ) → Type 0
      Leads parts steps now Tells old_parts old_steps old =
          (end : List (List ℕ)) → LeftOfAll (reverse parts) (reverse steps) now end
          → (mid : List (List ℕ)) × Tells old mid × LeftOfAll (reverse old_parts) (all_but_first (reverse old_steps)) mid end

      -- who tells what is left of the new parts has told what is left of the old ones
      abbrev pub GoesOn : List (Begun S C) → List PathStep → List (List ℕ) → List (Begun S C) → List PathStep → List (List ℕ) → Type 0
      GoesOn parts steps now old_parts old_steps old =
          (end : List (List ℕ)) → LeftOfAll (reverse parts) (reverse steps) now end
          → LeftOfAll (reverse old_parts) (reverse old_steps) old end
