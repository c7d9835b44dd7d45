-- The texts for conflicts: the reasons, and the places of both sides (section 5.3.2).
use Rattle.std.specs.Prelude.{ℕ, List, [], ◌∷◌, ◌++◌, Bool, map}
use Rattle.std.specs.List.{flat_map}
use Rattle.std.specs.Option.{option_map_or}
use Rattle.language_types.specs.declared.position.SourcePosition.{SourcePosition}
use Rattle.schema.specs.Catalog.{Catalog}
use Rattle.merge_field_pairs.specs.Entries.{PlainEntry, response_of}
use Rattle.merge_field_pairs.specs.DirectReason.{direct_of}
use Rattle.merge_field_pairs.specs.Texts.{direct_text, nested_text, joined, message_text}
use Rattle.merge_conflicts.specs.Reports.{Reports, none, direct, nested}

-- of two fields: their response name, the reason, and the places of the first and of the second with those of their
-- sides below
pub record Told : Type 0 where
  pub response : List ℕ
  pub reason : List ℕ
  pub lefts : List SourcePosition
  pub rights : List SourcePosition

-- the reason among those of the fields around them
abbrev pub as_nested : Told → List ℕ
as_nested t = nested_text t.response t.reason

-- an error: its message and its places
pub record ConflictValue : Type 0 where
  pub message : List ℕ
  pub places : List SourcePosition

abbrev pub error_of : Told → ConflictValue
error_of t = record { message = message_text t.response t.reason; places = t.lefts ++ t.rights }

abbrev pub place_of : {S C : Type 0} → PlainEntry S C → SourcePosition
place_of a = a.field.span.start

module _ {S C : Type 0} (E : S → S → Bool) (schema : Catalog S C) where
  -- the text of why two fields fail by themselves
  abbrev pub reason_between : Bool → PlainEntry S C → PlainEntry S C → List ℕ
  reason_between e a b = option_map_or (λ r. direct_text r a b) (direct_of E schema e a b) []

  -- of two fields that fail by themselves, under a flag
  abbrev pub told_directly : Bool → PlainEntry S C → PlainEntry S C → Told
  told_directly e a b =
      record {
        response = response_of a;
        reason = reason_between e a b;
        lefts = place_of a ∷ [];
        rights = place_of b ∷ [];
      }

  -- of two fields by the texts for the conflicts below them
  abbrev pub told_over : PlainEntry S C → PlainEntry S C → List Told → Told
  told_over a b below = record {
    response = response_of a;
    reason = joined (map as_nested below);
    lefts = place_of a ∷ flat_map (λ t. t.lefts) below;
    rights = place_of b ∷ flat_map (λ t. t.rights) below;
  }

  -- of each conflict, in order
  abbrev pub told : Reports (PlainEntry S C) → List Told
  told none = []
  told (direct a b e rest) = told_directly e a b ∷ told rest
  told (nested a b below rest) = told_over a b (told below) ∷ told rest

  -- the errors of conflicts
  abbrev pub errors_of : Reports (PlainEntry S C) → List ConflictValue
  errors_of reports = map error_of (told reports)
