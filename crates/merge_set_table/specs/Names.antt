-- Names by number.
use Rattle.std.specs.Prelude.{ℕ, List, Option}
use Rattle.merge_set_table.specs.declared.responses.ResponseNames.{ResponseNames}
use Rattle.merge_set_table.specs.NameMap.{number_at, KeepsNumbers, AreNumbersApart}

abbrev pub Names : Type 0
Names = ResponseNames

abbrev pub number_in : Names → List ℕ → Option ℕ
number_in names name = number_at names.map name

-- A name that has a number keeps it.
abbrev pub KeepsNames : Names → Names → Type 0
KeepsNames old new = KeepsNumbers old.map new.map

-- The numbers are below the count of names, and no two names have one.
abbrev pub AreApart : Names → Type 0
AreApart names = AreNumbersApart names.map
