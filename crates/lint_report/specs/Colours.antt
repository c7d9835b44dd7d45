-- What makes a text coloured on a terminal (ECMA-48, SGR); nothing where it is not coloured.
use Rattle.std.specs.Prelude.{◌∷◌, ◌++◌, Bool, List, [], ℕ, codes, if◌then◌else◌}

-- bold from here on
abbrev pub bold : Bool → List ℕ
bold coloured = if coloured then 27 ∷ codes "[1m" else []

-- and no more
abbrev pub plain : Bool → List ℕ
plain coloured = if coloured then 27 ∷ codes "[0m" else []

-- bold and red from here on
abbrev pub red : Bool → List ℕ
red coloured = if coloured then 27 ∷ codes "[1;31m" else []

-- the word before an error's message, in bold red
abbrev pub error_word : Bool → List ℕ
error_word coloured = if coloured then 27 ∷ (codes "[1;31merror:" ++ (27 ∷ codes "[0m ")) else codes "error: "

-- the mark below a place, likewise, and the end of its line
abbrev pub mark : Bool → List ℕ
mark coloured = if coloured then 27 ∷ (codes "[1;31m^" ++ (27 ∷ codes "[0m\n")) else codes "^\n"
