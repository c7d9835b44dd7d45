-- What is shown of a line round a place. Characters stand for themselves, as numbers.
use Rattle.std.specs.Prelude.{◌==◌, ◌+◌, ◌-◌, ℕ, List, [], ◌∷◌, ◌++◌, Bool, false, flat_map}
use Rattle.std.specs.Prelude.{if◌then◌else◌, length, max, nat_le, replicate, unwrap_or}
use Rattle.lint_report.specs.Colours.{mark}
use Rattle.lint_report.specs.Printable.{escape, is_printable, printed_all}
use Rattle.unicode_width.specs.Width.{char_width}

-- the columns of a character; one that is not printable has those of its escape
abbrev pub columns : ℕ → ℕ
columns character =
    if is_printable character then unwrap_or (char_width false character) 0 else length (escape character)

-- the columns that it may take of a window: a tab 8, and any other at least one
abbrev pub room_for : ℕ → ℕ
room_for character = if character == 9 then 8 else max (columns character) 1

abbrev pub room_of : List ℕ → ℕ
room_of [] = 0
room_of (character ∷ text) = room_for character + room_of text

-- the longest end of a text that takes at most so many columns
abbrev pub last_within : ℕ → List ℕ → List ℕ
last_within room [] = []
last_within room (character ∷ text) =
    if nat_le (room_of (character ∷ text)) room then character ∷ text else last_within room text

-- the longest beginning
abbrev pub first_within : ℕ → List ℕ → List ℕ
first_within room [] = []
first_within room (character ∷ text) =
    if nat_le (room_for character) room then character ∷ first_within (room - room_for character) text else []

-- of what comes before the place, at most 80 columns
abbrev pub shown_before : List ℕ → List ℕ
shown_before before = last_within 80 before

-- of the rest, what these leave of 120 columns
abbrev pub shown_rest : List ℕ → List ℕ → List ℕ
shown_rest before rest = first_within (120 - room_of (shown_before before)) rest

-- what comes below a character before the mark: a tab below a tab, else a space for each column
abbrev pub blank_for : ℕ → List ℕ
blank_for character = if character == 9 then 9 ∷ [] else replicate (columns character) 32

abbrev pub blanks : List ℕ → List ℕ
blanks = flat_map blank_for

-- the shown part of the line, and a mark below the place
abbrev pub window : Bool → List ℕ → List ℕ → List ℕ
window coloured before rest =
    printed_all (shown_before before ++ shown_rest before rest) ++ (10 ∷ (blanks (shown_before before) ++ mark coloured))
