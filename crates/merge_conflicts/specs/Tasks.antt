-- What is left to tell of conflicts.
use Rattle.std.specs.Prelude.{◌≡◌, List, [], ◌∷◌, ◌++◌, Bool, drop}
use Rattle.schema.specs.Catalog.{Catalog}
use Rattle.merge_field_pairs.specs.Entries.{PlainEntry}
use Rattle.merge_conflicts.specs.declared.account.Account.{Account}
use Rattle.merge_conflicts.specs.declared.parts.Part.{Part}
use Rattle.merge_conflicts.specs.declared.reasons.Task.{Task}
use Rattle.merge_conflicts.specs.declared.reasons.Task.TheVariants.{One, Others}
use Rattle.merge_conflicts.specs.Texts.{Told}
use Rattle.merge_conflicts.specs.Telling.{Adds, AddsNested, AddsJoined, AddsBehind, IsToldOf, AreToldOf}

-- these parts are left of a task
abbrev pub AreLeft : List Part → Task → Type 0
AreLeft parts (One part) = ⊥
AreLeft parts (Others all k) = drop k all.items ≡ parts

-- the parts wait, the first one next
abbrev pub IsWaiting : List Part → List Task → List Task → Type 0
IsWaiting [] old new = new ≡ old
IsWaiting (part ∷ parts) old new = (others : Task) × AreLeft parts others × (new ≡ old ++ others ∷ One part ∷ [])

module _ {S C : Type 0} (E : S → S → Bool) (schema : Catalog S C) (fields : List (PlainEntry S C)) where
  -- what is told of why the fields of a part fail
  abbrev pub MeetsWhy : Part → Account → Account → Type 0
  MeetsWhy part old new = (t : Told) → IsToldOf E schema fields part t → Adds t.reason t.lefts t.rights old new

  -- and of the part among others
  abbrev pub MeetsPart : Part → Account → Account → Type 0
  MeetsPart part old new = (t : Told) → IsToldOf E schema fields part t → AddsNested t old new

  -- and of some parts
  abbrev pub MeetsParts : List Part → Account → Account → Type 0
  MeetsParts parts old new = (ts : List Told) → AreToldOf E schema fields parts ts → AddsJoined ts old new

  -- and of a task
  abbrev pub Meets : Task → Account → Account → Type 0
  Meets (One part) old new = MeetsPart part old new
  Meets (Others parts k) old new = (ts : List Told) → AreToldOf E schema fields (drop k parts.items) ts → AddsBehind ts old new

  -- and of tasks one after the other, the first one next
  abbrev pub MeetsAll : List Task → Account → Account → Type 0
  MeetsAll [] old new = old ≡ new
  MeetsAll (t ∷ ts) old new = (mid : Account) × Meets t old mid × MeetsAll ts mid new

  -- who tells the one list of tasks from now on has told R from old on, and then the other list
  abbrev pub Leads : List Task → Account → (Account → Account → Type 0) → List Task → Account → Type 0
  Leads ts now R us old = (end : Account) → MeetsAll ts now end → (mid : Account) × R old mid × MeetsAll us mid end
