-- The three numbers of a position in a text, and what it prints; items with their spans (section 2.1).
use Rattle.std.specs.Prelude.{ℕ, List, ◌++◌, codes}
use Rattle.std.specs.Fmt.{decimal}
use Rattle.language_types.specs.declared.position.SourcePosition.{SourcePosition}
use Rattle.language_types.specs.declared.position.Span.{Span}
use Rattle.language_types.specs.declared.position.Spanning.{Spanning}

-- the number of bytes before it
abbrev pub index_of : SourcePosition → ℕ
index_of p = p.index

-- the line, counted from 0
abbrev pub line_of : SourcePosition → ℕ
line_of p = p.line

-- the column in bytes, counted from 0
abbrev pub column_of : SourcePosition → ℕ
column_of p = p.column

-- the bytes that it prints
abbrev pub printed_position : SourcePosition → List ℕ
printed_position p = decimal (line_of p) ++ codes ":" ++ decimal (column_of p)

-- an item with its span
abbrev pub Placed : Type 0 → Type 0
Placed T = Spanning T Span
