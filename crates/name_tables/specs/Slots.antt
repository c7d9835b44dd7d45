-- The slot of a name.
use Rattle.std.specs.Prelude.{ℕ, List, ◌+◌, ◌-◌, ◌*◌, ◌%◌, bit_and, fold}

-- A name as a number: its bytes are the digits, of base 11.
abbrev pub as_number : List ℕ → ℕ
as_number name = fold (λ number byte. number * 11 + byte) 0 name

-- The hash of a name: that number modulo 2 to the power of 32.
abbrev pub weight : List ℕ → ℕ
weight name = as_number name % 4294967296

-- The slot of a name among this many, which are a power of two.
abbrev pub slot_number : List ℕ → ℕ → ℕ
slot_number name slots = bit_and (weight name) (slots - 1)
