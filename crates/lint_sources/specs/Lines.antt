-- The lines of a text, ended as in section 2.1.3.
use Rattle.std.specs.Prelude.{◌+◌, ◌==◌, ℕ, Bool, false, not, if◌then◌else◌, List, [], ◌∷◌}

-- whether the text begins with a line feed
abbrev pub starts_with_feed : List ℕ → Bool
starts_with_feed [] = false
starts_with_feed (byte ∷ bytes) = byte == 10

-- whether a line ends with this byte before that text: a line feed, or a carriage return without a line feed after it
abbrev pub ends_line : ℕ → List ℕ → Bool
ends_line byte bytes = if byte == 13 then not (starts_with_feed bytes) else byte == 10

-- the number of lines that end in a text: with a line feed, a carriage return, or both in this order
abbrev pub line_ends : List ℕ → ℕ
line_ends [] = 0
line_ends (byte ∷ bytes) = (if ends_line byte bytes then 1 else 0) + line_ends bytes

-- the number of lines that end with one byte more, after a carriage return or not
abbrev pub more_ends : Bool → ℕ → ℕ
more_ends after_return byte = if byte == 13 then 1 else if byte == 10 then (if after_return then 0 else 1) else 0
