-- What is written of conflicts.
use Rattle.std.specs.Prelude.{◌≡◌, ℕ, List, [], ◌∷◌, ◌++◌, Bool, map, slice_get, Some, codes, string_bytes}
use Rattle.std.specs.List.{flat_map}
use Rattle.language_types.specs.declared.position.SourcePosition.{SourcePosition}
use Rattle.merge_sets.specs.declared.node.Entry.{Entry}
use Rattle.schema.specs.Catalog.{Catalog}
use Rattle.merge_field_pairs.specs.Entries.{PlainEntry}
use Rattle.merge_field_pairs.specs.Texts.{joined}
use Rattle.merge_conflicts.specs.declared.account.Account.{Account}
use Rattle.merge_conflicts.specs.declared.conflict.Conflict.{Conflict}
use Rattle.merge_conflicts.specs.declared.parts.Part.{Part}
use Rattle.merge_conflicts.specs.declared.parts.Why.{Why}
use Rattle.merge_conflicts.specs.declared.parts.Why.TheVariants as why
use Rattle.merge_conflicts.specs.Reports.{Reports, postfix, AreReportsOf}
use Rattle.merge_conflicts.specs.Texts.{Told, ConflictValue, as_nested, told_directly, told_over, told}

abbrev pub plain_conflict : Conflict → ConflictValue
plain_conflict c = record { message = string_bytes c.message; places = c.places.items }

-- a text, and places of the first fields and of the second
pub record Adds (text : List ℕ) (lefts rights : List SourcePosition) (old new : Account) : Type 0 where
  pub text_added : string_bytes new.text ≡ string_bytes old.text ++ text
  pub lefts_added : new.lefts.items ≡ old.lefts.items ++ lefts
  pub rights_added : new.rights.items ≡ old.rights.items ++ rights

-- the text for two fields, as it stands among the reasons of the fields around them
abbrev pub AddsNested : Told → Account → Account → Type 0
AddsNested t = Adds (as_nested t) t.lefts t.rights

-- of some, one after the other
abbrev pub AddsJoined : List Told → Account → Account → Type 0
AddsJoined ts = Adds (joined (map as_nested ts)) (flat_map (λ t. t.lefts) ts) (flat_map (λ t. t.rights) ts)

-- of those behind another
abbrev pub AddsBehind : List Told → Account → Account → Type 0
AddsBehind ts = Adds (flat_map (λ x. codes " and " ++ x) (map as_nested ts)) (flat_map (λ t. t.lefts) ts) (flat_map (λ t. t.rights) ts)

module _ {S C : Type 0} (E : S → S → Bool) (schema : Catalog S C) (fields : List (PlainEntry S C)) where
  -- of two fields that fail for such a reason
  abbrev pub IsToldBy : Why → PlainEntry S C → PlainEntry S C → Told → Type 0
  IsToldBy (why.Direct e) x y t = t ≡ told_directly E schema e x y
  IsToldBy (why.Below found) x y t =
      (rs : Reports Entry) × (ts : Reports (PlainEntry S C)) × (found.now ≡ postfix rs) × AreReportsOf fields rs ts
      × (t ≡ told_over E schema x y (told E schema ts))

  -- the text for a part
  pub record IsToldOf (part : Part) (t : Told) : Type 0 where
    pub first : PlainEntry S C
    pub second : PlainEntry S C
    pub is_first : slice_get fields part.first ≡ Some first
    pub is_second : slice_get fields part.second ≡ Some second
    pub by : IsToldBy part.why first second t

  -- of each part
  pub data AreToldOf : List Part → List Told → Type 0 where
    none : AreToldOf [] []
    more : {p : Part} {ps : List Part} {t : Told} {ts : List Told} → IsToldOf p t → AreToldOf ps ts → AreToldOf (p ∷ ps) (t ∷ ts)
