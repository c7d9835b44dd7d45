-- The texts of what stands between two fields, of what stands below them, and of the error.
use Rattle.std.specs.Prelude.{ℕ, List, [], ◌++◌, Option, Some, codes}
use Rattle.std.specs.List.{join_by}
use Rattle.language_types.specs.Types.{TypeShape, shape, printed}
use Rattle.meta.specs.declared.fields.Field as metadata
use Rattle.merge_field_pairs.specs.declared.direct.DirectReason.{DirectReason}
use Rattle.merge_field_pairs.specs.declared.direct.DirectReason.TheVariants as reason
use Rattle.merge_field_pairs.specs.Entries.{PlainEntry}

abbrev pub names_text : List ℕ → List ℕ → List ℕ
names_text first second = first ++ (codes " and " ++ (second ++ codes " are different fields"))

abbrev pub arguments_text : List ℕ
arguments_text = codes "they have differing arguments"

abbrev pub types_text : TypeShape → TypeShape → List ℕ
types_text first second = codes "they return conflicting types " ++ (printed first ++ (codes " and " ++ printed second))

-- nothing of types that aren't both known
abbrev pub known_types_text : {S : Type 0} → Option (metadata.Field S) → Option (metadata.Field S) → List ℕ
known_types_text (Some f) (Some g) = types_text (shape f.field_type) (shape g.field_type)
known_types_text _ _ = []

module _ {S C : Type 0} where
  -- of a reason for two fields, in their order
  abbrev pub direct_text : DirectReason → PlainEntry S C → PlainEntry S C → List ℕ
  direct_text reason.DifferentNames a b = names_text a.field.item.name.item.now b.field.item.name.item.now
  direct_text reason.DifferentArguments a b = arguments_text
  direct_text reason.DifferentTypes a b = known_types_text a.metadata b.metadata

-- of two fields by their response name and their own reason, among those of the fields around them
abbrev pub nested_text : List ℕ → List ℕ → List ℕ
nested_text response reason = codes "subfields \"" ++ (response ++ (codes "\" conflict because " ++ reason))

-- of all reasons below two fields
abbrev pub joined : List (List ℕ) → List ℕ
joined reasons = join_by (λ t. t) (codes " and ") reasons

-- of the error, by the response name and the reason of the two fields
abbrev pub message_text : List ℕ → List ℕ → List ℕ
message_text response reason =
    codes "Fields \"" ++ (response ++ (codes "\" conflict because "
    ++ (reason ++ codes ". Use different aliases on the fields to fetch both if this was intentional")))
