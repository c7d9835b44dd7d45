-- The faults of a value that is handed in for a variable, row by row (section 6.1.2).
use Rattle.std.specs.Prelude.{◌≡◌, ◌⊎◌, ℕ, List, [], ◌∷◌, ◌++◌, length, reverse, map, Option, Some, None, string_bytes}
use Rattle.std.specs.Prelude.{nat_eq, if◌then◌else◌}
use Rattle.language_types.specs.declared.types.TypeModifier.{TypeModifier}
use Rattle.language_types.specs.declared.types.TypeModifier.TheVariants as m
use Rattle.language_values.specs.declared.value.InputValue.{InputValue}
use Rattle.language_values.specs.declared.value.InputValue.TheOpen as v
use Rattle.language_values.specs.declared.value.InputValue.TheFolds.{rec-InputValue}
use Rattle.language_types.specs.Types.{TypeShape, shape, printed}
use Rattle.language_values.specs.Values.{Entry, last_value}
use Rattle.language_values.specs.ValuesPrinted.{printed_value}
use Rattle.meta.specs.Answers.{Answers, Accepts, RefusesWith}
use Rattle.meta.specs.Kept.{scalar_check, input_object_check}
use Rattle.meta.specs.declared.arguments.Argument.{Argument}
use Rattle.meta.specs.declared.inputs.InputObjectMetaOf.{InputObjectMetaOf}
use Rattle.meta.specs.declared.kinds.MetaTypeOf.{MetaTypeOf}
use Rattle.meta.specs.declared.kinds.MetaTypeOf.TheVariants as k
use Rattle.meta.specs.declared.scalars.ScalarMetaOf.{ScalarMetaOf}
use Rattle.schema.specs.Catalog.{Catalog, type_in}
use Rattle.schema.specs.Possible.{is_among}
use Rattle.variable_values.specs.Dialects.{is_needed, takes_any_value}
use Rattle.variable_values.specs.InTurn.{InTurn}
use Rattle.variable_values.specs.Keys.{keys_of, field_names, unknown_keys}
use Rattle.variable_values.specs.Texts.{null_text, length_text, scalar_text, list_text, object_text, enum_text}
use Rattle.variable_values.specs.Texts.{no_name_text, no_object_text, unknown_text, input_text}

-- a step into a value: to an item of a list, or to what stands under a key
pub data Step : Type 0 where
  element : ℕ → Step
  field : List ℕ → Step

-- where in a value, outermost first, and what is wrong there
pub record Fault : Type 0 where
  pub path : List Step
  pub text : List ℕ

abbrev pub here : List ℕ → Fault
here text = record { path = []; text = text }

abbrev pub under : Step → Fault → Fault
under step f = record { path = step ∷ f.path; text = f.text }

-- whether these are the faults of a value against a type
abbrev pub Judge : Type 0 → Type 1
Judge S = InputValue S → TypeShape → List Fault → Type 0

-- a name with modifiers around it, outermost first
abbrev pub within : List TypeModifier → List ℕ → TypeShape
within ms name = record { name = name; modifiers = reverse ms }

-- where an input field is left out: a fault where it has to be given
abbrev pub left_out : {S C : Type 0} → Catalog S C → Argument S → List Fault
left_out schema a = if is_needed schema a then here (null_text (printed (shape a.arg_type))) ∷ [] else []

-- of a list of this length
abbrev pub wrong_length : Option ℕ → ℕ → List Fault
wrong_length None found = []
wrong_length (Some expected) found = if nat_eq expected found then [] else here (length_text expected found) ∷ []

-- of a value that an enum's value is named by, or of another
abbrev pub enum_faults : List ℕ → List (List ℕ) → Option (List ℕ) → List Fault
enum_faults name values None = here (no_name_text name) ∷ []
enum_faults name values (Some n) = if is_among values n then [] else here (enum_text name) ∷ []

-- the name of an enum's value: a string, or an enum value
abbrev pub name_in : {S X : Type 0} → (S → Option (List ℕ)) → v.InputValue-F S X → Option (List ℕ)
name_in str_of (v.Scalar s) = str_of s
name_in str_of (v.Enum n) = Some (string_bytes n)
name_in str_of _ = None

-- of a list or an object that stands for a scalar
abbrev pub whole_faults : {S X : Type 0} → List ℕ → v.InputValue-F S X → List Fault
whole_faults name (v.List xs) = here (list_text name) ∷ []
whole_faults name (v.Object es) = here (object_text name) ∷ []
whole_faults name _ = []

-- of a value that the check of a scalar accepts
abbrev pub accepted_faults : {S C X : Type 0} → Catalog S C → ScalarMetaOf C → v.InputValue-F S X → List Fault
accepted_faults schema s x = if takes_any_value schema s then [] else whole_faults (string_bytes s.name) x

-- under a key that no input field has
abbrev pub unknown_field : List ℕ → Fault
unknown_field key = under (field key) (here unknown_text)

module _ {S C : Type 0} (may : Answers (InputValue S) C) where
  -- these where the check accepts the value, and where it refuses what is said of why
  abbrev pub Checked : C → InputValue S → (List ℕ → List ℕ) → List Fault → List Fault → Type 0
  Checked c value said accepted fs =
      (Accepts may c value × (fs ≡ accepted)) ⊎ ((why : List ℕ) × RefusesWith may c value why × (fs ≡ here (said why) ∷ []))

  -- these, if there are any; else what the check says
  abbrev pub OrChecked : List Fault → C → InputValue S → (List ℕ → List ℕ) → List Fault → Type 0
  OrChecked [] c value said fs = Checked c value said [] fs
  OrChecked (g ∷ gs) c value said fs = fs ≡ g ∷ gs

-- Scalars have a text, and some are strings.
module _ {S C : Type 0} (schema : Catalog S C) (may : Answers (InputValue S) C) (text : S → List ℕ) (str_of : S → Option (List ℕ)) where
  -- The values inside, each with what it is and its faults.
  module _ {X : Type 0} (value_of : X → InputValue S) (judge : X → Judge S) where
    -- those of a value inside, one step down
    abbrev pub Inside : Step → TypeShape → X → List Fault → Type 0
    Inside step t x fs = (gs : List Fault) × judge x (value_of x) t gs × (fs ≡ map (under step) gs)

    -- those at an input field, by its value
    abbrev pub AtField : Argument S → Option X → List Fault → Type 0
    AtField a None fs = fs ≡ map (under (field (string_bytes a.name))) (left_out schema a)
    AtField a (Some x) fs = Inside (field (string_bytes a.name)) (shape a.arg_type) x fs

    -- those at all input fields; of several entries of a key the last counts
    abbrev pub AtFields : List (Argument S) → List (Entry X) → List Fault → Type 0
    AtFields fields es fs = InTurn (λ i a. AtField a (last_value (string_bytes a.name) es)) 0 fields fs

    -- of an object against an input object
    abbrev pub OfObject : InputObjectMetaOf S C → List (Entry X) → InputValue S → List Fault → Type 0
    OfObject o es value fs =
        (gs : List Fault) × AtFields o.input_fields.items es gs
        × OrChecked may (gs ++ map unknown_field (unknown_keys (field_names o.input_fields.items) (keys_of es)))
        (input_object_check o) value (input_text (string_bytes o.name) (printed_value text str_of value)) fs

    -- of a value against an input object
    abbrev pub OfInput : v.InputValue-F S X → InputObjectMetaOf S C → InputValue S → List Fault → Type 0
    OfInput (v.Object es) o value fs = OfObject o es.items value fs
    OfInput _ o value fs = fs ≡ here (no_object_text (string_bytes o.name)) ∷ []

    -- of a value that isn't null against a scalar, an enum or an input object; no other type has any
    abbrev pub OfMeta : v.InputValue-F S X → InputValue S → MetaTypeOf S C → List Fault → Type 0
    OfMeta x value (k.Scalar s) fs =
        Checked may (scalar_check s) value (scalar_text (string_bytes s.name) (printed_value text str_of value))
        (accepted_faults schema s x) fs
    OfMeta x value (k.Enum e) fs = fs ≡ enum_faults (string_bytes e.name) (map (λ n. string_bytes n.name) e.values.items) (name_in str_of x)
    OfMeta x value (k.InputObject o) fs = OfInput x o value fs
    OfMeta x value _ fs = ⊥

    -- of a value against a plain name
    abbrev pub OfNamed : v.InputValue-F S X → InputValue S → Option (MetaTypeOf S C) → List Fault → Type 0
    OfNamed v.Null value meta fs = fs ≡ []
    OfNamed x value None fs = ⊥
    OfNamed x value (Some meta) fs = OfMeta x value meta fs

    -- of a value against a name with modifiers around it, outermost first
    abbrev pub Of : v.InputValue-F S X → InputValue S → List TypeModifier → List ℕ → List Fault → Type 0
    Of x value [] name fs = OfNamed x value (type_in name schema) fs
    Of v.Null value (m.NonNull ∷ ms) name fs = fs ≡ here (null_text (printed (within (m.NonNull ∷ ms) name))) ∷ []
    Of v.Null value (m.List size ∷ ms) name fs = fs ≡ []
    Of (v.List xs) value (m.List size ∷ ms) name fs =
        (gs : List Fault) × InTurn (λ i x. Inside (element i) (within ms name) x.item) 0 xs.items gs
        × (fs ≡ wrong_length size (length xs.items) ++ gs)
    Of x value (m.NonNull ∷ ms) name fs = Of x value ms name fs
    Of x value (m.List size ∷ ms) name fs = (gs : List Fault) × Of x value ms name gs × (fs ≡ wrong_length size 1 ++ gs)

  abbrev pub judge_step : (X : Type 0) → (X → InputValue S) → (X → Judge S) → v.InputValue-F S X → Judge S
  judge_step X value_of judge x value t fs = Of value_of judge x value (reverse t.modifiers) t.name fs

  abbrev pub judge_of : InputValue S → Judge S
  judge_of = rec-InputValue S (Judge S) judge_step

  -- these are the faults of a value against a type
  abbrev pub Faults : Judge S
  Faults value t fs = judge_of value value t fs
