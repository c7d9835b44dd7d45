-- Conflicts of fields as trees: two fields fail by themselves, or by the fields below them (section 5.3.2).
use Rattle.std.specs.Prelude.{◌≡◌, ◌+◌, ℕ, suc, List, [], ◌∷◌, ◌++◌, Bool, Some, length, slice_get}
use Rattle.merge_sets.specs.declared.node.Entry.{Entry}
use Rattle.merge_sets.specs.declared.finding.Finding.{Finding}
use Rattle.merge_sets.specs.declared.finding.Finding.TheVariants.{Direct, Nested}
use Rattle.merge_field_pairs.specs.Entries.{PlainEntry}

-- Some conflicts, one after the other: of two fields by themselves, under a flag, or of two fields by the conflicts
-- below them.
pub data Reports (X : Type 0) : Type 0 where
  none : Reports X
  direct : X → X → Bool → Reports X → Reports X
  nested : X → X → Reports X → Reports X → Reports X

-- the two fields of each
abbrev pub roots : {X : Type 0} → Reports X → List (X × X)
roots none = []
roots (direct a b e rest) = (a, b) ∷ roots rest
roots (nested a b below rest) = (a, b) ∷ roots rest

-- their number, with those below others
abbrev pub count_of : {X : Type 0} → Reports X → ℕ
count_of none = 0
count_of (direct a b e rest) = suc (count_of rest)
count_of (nested a b below rest) = count_of below + suc (count_of rest)

-- what a search finds of them: a nested conflict stands after those below it, with their number
abbrev pub postfix : Reports Entry → List Finding
postfix none = []
postfix (direct a b e rest) = Direct a b e ∷ postfix rest
postfix (nested a b below rest) = postfix below ++ (Nested a b (length (postfix below)) ∷ postfix rest)

module _ {S C : Type 0} where
  -- the field of the number
  abbrev pub IsFieldAt : List (PlainEntry S C) → Entry → PlainEntry S C → Type 0
  IsFieldAt fields a x = slice_get fields a.field ≡ Some x

  -- the same conflicts, of the fields that have these numbers
  pub data AreReportsOf (fields : List (PlainEntry S C)) : Reports Entry → Reports (PlainEntry S C) → Type 0 where
    of_none : AreReportsOf fields none none
    of_direct : {a b : Entry} {x y : PlainEntry S C} {rest : Reports Entry} {others : Reports (PlainEntry S C)} (e : Bool)
        → IsFieldAt fields a x → IsFieldAt fields b y → AreReportsOf fields rest others
        → AreReportsOf fields (direct a b e rest) (direct x y e others)
    of_nested : {a b : Entry} {x y : PlainEntry S C} {below rest : Reports Entry} {inner others : Reports (PlainEntry S C)}
        → IsFieldAt fields a x → IsFieldAt fields b y → AreReportsOf fields below inner → AreReportsOf fields rest others
        → AreReportsOf fields (nested a b below rest) (nested x y inner others)
