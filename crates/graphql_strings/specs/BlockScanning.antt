-- How far the code has come in a block string: in its lines, and in one of them.
use Rattle.std.specs.Prelude.{◌≡◌, ℕ, ◌≤◌, Bool, true, false, ◌&&◌, ◌==◌, if◌then◌else◌, List, [], ◌∷◌, ◌++◌, drop}
use Rattle.std.specs.Prelude.{slice_range, option_map, unwrap_or, min, Option}
use Rattle.std.specs.Str.{IsCharBoundary}
use Rattle.std.specs.List.{onto_first}
use Rattle.graphql_strings.specs.Characters.{is_line_end}
use Rattle.graphql_strings.specs.BlockStrings.{unescaped}

-- the lines of what is left of a text, where `after` says that a carriage return stands before it
abbrev pub lines_from : Bool → List ℕ → List (List ℕ)
lines_from after [] = [] ∷ []
lines_from after (c ∷ cs) =
    if after && (c == 10) then lines_from false cs
    else if is_line_end c then [] ∷ lines_from (c == 13) cs
    else onto_first c (lines_from false cs)

-- the same lines, where p stands before them
abbrev pub onto_line : List ℕ → List (List ℕ) → List (List ℕ)
onto_line p [] = p ∷ []
onto_line p (l ∷ ls) = (p ++ l) ∷ ls

-- the lines ls are read, and the next one begins at `start`
pub record LinesRead (raw : List ℕ) (index : ℕ) (after : Bool) (start : ℕ) (ls : List (List ℕ)) : Type 0 where
  pub starts : IsCharBoundary raw start
  pub order : start ≤ index
  pub back : after ≡ true → start ≡ index
  pub so_far : ls ++ onto_line (slice_range raw start index) (lines_from after (drop index raw)) ≡ lines_from false raw

-- a place in a line, whose text from `start` on is not written yet
pub record LineAt (line : List ℕ) (index start : ℕ) : Type 0 where
  pub starts : IsCharBoundary line start
  pub order : start ≤ index

-- what is left to write of it: from `index` on a backslash may stand before three quotes
abbrev pub left_of : List ℕ → ℕ → ℕ → List ℕ
left_of line index start = slice_range line start index ++ unescaped (drop index line)

-- the lesser of the indents, where there was one before
abbrev pub lesser : Option ℕ → ℕ → ℕ
lesser before n = unwrap_or (option_map (λ least. min least n) before) n
