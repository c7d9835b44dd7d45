-- Characters at places of a text (GraphQL, October 2021, appendix B.1), over the bytes of UTF-8.
use Rattle.std.specs.Prelude.{ℕ, Bool, ◌||◌, ◌==◌, nat_eq, List, [], ◌∷◌, slice_index}
use Rattle.std.specs.List.{starts_with}

-- the byte at an index, or 0 past the end, which no production has
abbrev pub at : List ℕ → ℕ → ℕ
at text n = slice_index text n

abbrev pub begins : List ℕ → List ℕ → Bool
begins word text = starts_with nat_eq text word

-- LineTerminator, a byte of it
abbrev pub is_line_end : ℕ → Bool
is_line_end c = (c == 10) || (c == 13)

-- the quotes around a block string, and what stands for them inside it
abbrev pub three_quotes : List ℕ
three_quotes = 34 ∷ 34 ∷ 34 ∷ []

abbrev pub escaped_quotes : List ℕ
escaped_quotes = 92 ∷ three_quotes
