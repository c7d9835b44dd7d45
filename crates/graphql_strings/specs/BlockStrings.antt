-- What a block string stands for (GraphQL, October 2021, section 2.9.4), over the bytes of UTF-8.
use Rattle.std.specs.Prelude.{ℕ, min, Bool, not, ◌&&◌, ◌||◌, ◌==◌, if◌then◌else◌, List, [], ◌∷◌, map, filter, drop}
use Rattle.std.specs.Prelude.{unwrap_or}
use Rattle.std.specs.List.{list_all, prefix_len, reduce, onto_first, join_with_byte}
use Rattle.graphql_strings.specs.Characters.{at, begins, escaped_quotes, is_line_end}

-- BlockStringCharacter*: `\"""` stands for `"""`, so a backslash before three quotes is left out
abbrev pub unescaped : List ℕ → List ℕ
unescaped [] = []
unescaped (c ∷ cs) = if begins escaped_quotes (c ∷ cs) then unescaped cs else c ∷ unescaped cs

-- the lines between the LineTerminators: a line feed, a carriage return, or both in the other order
abbrev pub lines : List ℕ → List (List ℕ)
lines [] = [] ∷ []
lines (c ∷ cs) =
    if (c == 13) && (at cs 0 == 10) then lines cs
    else if is_line_end c then [] ∷ lines cs
    else onto_first c (lines cs)

-- WhiteSpace
abbrev pub is_white : ℕ → Bool
is_white c = (c == 9) || (c == 32)

-- how much WhiteSpace a line begins with; whether there is nothing else in it
abbrev pub indent : List ℕ → ℕ
indent line = prefix_len is_white line

abbrev pub is_blank_line : List ℕ → Bool
is_blank_line line = list_all is_white line

abbrev pub is_written_line : List ℕ → Bool
is_written_line line = not (is_blank_line line)

-- the least indent of the lines that are not blank, 0 where each is
abbrev pub common_indent : List (List ℕ) → ℕ
common_indent ls = unwrap_or (reduce min (map indent (filter is_written_line ls))) 0

-- so many characters removed from all lines but the first
abbrev pub unindented : ℕ → List (List ℕ) → List (List ℕ)
unindented n [] = []
unindented n (first ∷ others) = first ∷ map (drop n) others

-- the blank lines removed at the beginning; at the end
abbrev pub without_first_blanks : List (List ℕ) → List (List ℕ)
without_first_blanks [] = []
without_first_blanks (l ∷ ls) = if is_blank_line l then without_first_blanks ls else l ∷ ls

abbrev pub without_last_blanks : List (List ℕ) → List (List ℕ)
without_last_blanks [] = []
without_last_blanks (l ∷ ls) = if list_all is_blank_line (l ∷ ls) then [] else l ∷ without_last_blanks ls

-- BlockStringValue(rawValue)
abbrev pub block_value : List ℕ → List ℕ
block_value raw =
    let all = lines raw in
    let even = unindented (common_indent (drop 1 all)) all in
    join_with_byte 10 (without_last_blanks (without_first_blanks even))

-- the value of a block string, of what stands between its quotes
unfoldable pub block_string_value : List ℕ → List ℕ
block_string_value raw = block_value (unescaped raw)
