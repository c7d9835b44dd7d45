-- Findings by the conflicts whose trees they write out.
use Rattle.std.specs.Prelude.{◌≡◌, ℕ, ◌+◌, List, [], ◌∷◌, ◌++◌, Bool, Option, Some, None, length}
use denote.Ref.{Bor}
use Rattle.merge_sets.specs.declared.node.Entry.{Entry}
use Rattle.merge_sets.specs.declared.finding.Finding.{Finding}
use Rattle.merge_conflicts.specs.declared.parts.Part.{Part}
use Rattle.merge_conflicts.specs.declared.parts.Why.{Why}
use Rattle.merge_conflicts.specs.declared.parts.Why.TheVariants as why
use Rattle.merge_conflicts.specs.Reports.{Reports, none, direct, nested, postfix}

abbrev pub part_of : Entry → Entry → Why → Part
part_of a b w = record { first = a.field; second = b.field; why = w }

-- a part for each conflict, in order, with the findings below it
pub data ArePartsOf : Reports Entry → List Part → Type 0 where
  no_parts : ArePartsOf none []
  and_direct : {a b : Entry} {rest : Reports Entry} {parts : List Part} (e : Bool)
      → ArePartsOf rest parts → ArePartsOf (direct a b e rest) (part_of a b (why.Direct e) ∷ parts)
  and_nested : {a b : Entry} {below rest : Reports Entry} {parts : List Part} (found : Bor (List Finding))
      → found.now ≡ postfix below → ArePartsOf rest parts → ArePartsOf (nested a b below rest) (part_of a b (why.Below found) ∷ parts)

-- there is none, or the part is that of the last conflict, and the findings are those of the conflicts before it
abbrev pub IsLastPart : Reports Entry → Option (Bor (List Finding) × Part) → Type 0
IsLastPart reports None = reports ≡ none
IsLastPart reports (Some (found, part)) =
    (before : Reports Entry) × (found.now ≡ postfix before)
    × ((parts : List Part) → ArePartsOf before parts → ArePartsOf reports (parts ++ part ∷ []))

-- how many findings there are of why two fields fail, with their own
abbrev pub extent_of : Why → ℕ
extent_of (why.Direct e) = 1
extent_of (why.Below found) = length found.now + 1

abbrev pub extent : Part → ℕ
extent part = extent_of part.why
