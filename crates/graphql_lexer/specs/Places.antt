-- Places in a text: the index from its start, the line, the column in the line, each from 0, in bytes. A line ends with
-- a line feed, a carriage return, or both in this order.
use Rattle.std.specs.Prelude.{ℕ, ◌+◌, ◌≤◌, true, false, ◌&&◌, ◌==◌, if◌then◌else◌, List, fold}
use Rattle.graphql_lexer.specs.declared.cursor.Cursor.{Cursor}

-- after one byte
unfoldable pub after : Cursor → ℕ → Cursor
after p c =
    if c == 13 then record { index = p.index + 1; line = p.line + 1; column = 0; after_return = true }
    else if (c == 10) && p.after_return then record { index = p.index + 1; line = p.line; column = 0; after_return = false }
    else if c == 10 then record { index = p.index + 1; line = p.line + 1; column = 0; after_return = false }
    else record { index = p.index + 1; line = p.line; column = p.column + 1; after_return = false }

abbrev pub after_all : Cursor → List ℕ → Cursor
after_all p bytes = fold after p bytes

-- after n bytes that end no line
abbrev pub along : Cursor → ℕ → Cursor
along p n =
    record { index = p.index + n; line = p.line; column = p.column + n; after_return = (n == 0) && p.after_return }

-- no line and no column is past the index
abbrev pub Counts : Cursor → Type 0
Counts p = (p.line ≤ p.index) × (p.column ≤ p.index)
