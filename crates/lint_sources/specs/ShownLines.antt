-- The line of a position, and what comes before the position in it.
use Rattle.std.specs.Prelude.{◌≡◌, ◌==◌, ◌-◌, ◌||◌, ◌&&◌, ℕ, Bool, not, List, [], count_by, drop, nat_le, nat_lt}
use Rattle.std.specs.Prelude.{reverse, take, take_while}
use Rattle.std.specs.List.{prefix_len}
use Rattle.std.specs.Str.{IsCharBoundary}
use Rattle.language_types.specs.declared.position.SourcePosition.{SourcePosition}
use Rattle.language_types.specs.Position.{index_of, column_of}

-- neither a line feed nor a carriage return
abbrev pub is_in_line : ℕ → Bool
is_in_line byte = not (byte == 10) && not (byte == 13)

-- the number of bytes after the last line terminator
abbrev pub column_after : List ℕ → ℕ
column_after text = prefix_len is_in_line (reverse text)

-- the line of a text from an index on, without its end; empty if no character begins there
pub record IsLineFrom (text : List ℕ) (start : ℕ) (line : List ℕ) : Type 0 where
  pub begun : IsCharBoundary text start → line ≡ take_while is_in_line (drop start text)
  pub none : ¬ (IsCharBoundary text start) → line ≡ []

-- the line of a position, which begins as many bytes before it as its column says
abbrev pub IsLineOf : List ℕ → SourcePosition → List ℕ → Type 0
IsLineOf text p line = IsLineFrom text (index_of p - column_of p) line

-- a character begins with any byte but those from 0x80 to 0xBF (RFC 3629)
abbrev pub begins_character : ℕ → Bool
begins_character byte = nat_lt byte 0x80 || nat_le 0xC0 byte

-- what a line has before a position
abbrev pub before_place : List ℕ → SourcePosition → List ℕ
before_place text p = take (column_of p) (drop (index_of p - column_of p) text)

-- how many characters that are
abbrev pub characters_before : List ℕ → SourcePosition → ℕ
characters_before text p = count_by begins_character (before_place text p)
