-- Which characters of a file are printed as they are, and what is printed for the others.
use Rattle.std.specs.Prelude.{◌==◌, ◌&&◌, ◌||◌, ◌∷◌, ◌++◌, [], ℕ, Bool, List, chars, codes, false}
use Rattle.std.specs.Prelude.{flat_map, if◌then◌else◌, nat_lt, not}
use Rattle.std.specs.Char.{encode_utf8}
use Rattle.std.specs.Fmt.{digits}
use Rattle.std.specs.Int.{is_in_range}

-- C0 but the tab, DEL, and C1
abbrev pub is_control : ℕ → Bool
is_control character = (nat_lt character 0x20 && not (character == 9)) || is_in_range 0x7F 0x9F character

-- the line separator and the paragraph separator
abbrev pub is_separator : ℕ → Bool
is_separator character = is_in_range 0x2028 0x2029 character

-- the marks, embeddings, overrides and isolates of the bidirectional algorithm (UAX #9)
abbrev pub is_bidirectional : ℕ → Bool
is_bidirectional character =
    character == 0x61C || is_in_range 0x200E 0x200F character || is_in_range 0x202A 0x202E character
    || is_in_range 0x2066 0x2069 character

-- none of these, which a terminal may obey
abbrev pub is_printable : ℕ → Bool
is_printable character = not (is_control character || is_separator character || is_bidirectional character)

-- `\u{1b}`
abbrev pub escape : ℕ → List ℕ
escape character = codes "\\u{" ++ digits 16 false character ++ codes "}"

-- what is printed for a character, and for a text
abbrev pub printed_character : ℕ → List ℕ
printed_character character = if is_printable character then encode_utf8 character else escape character

abbrev pub printed_all : List ℕ → List ℕ
printed_all = flat_map printed_character

abbrev pub printed : List ℕ → List ℕ
printed text = printed_all (chars text)

-- the same of a text of several lines, whose line feeds stay
abbrev pub printed_in_lines : ℕ → List ℕ
printed_in_lines character = if character == 10 then 10 ∷ [] else printed_character character

abbrev pub printed_lines : List ℕ → List ℕ
printed_lines text = flat_map printed_in_lines (chars text)
