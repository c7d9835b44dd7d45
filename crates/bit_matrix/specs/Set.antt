-- Which numbers a set of bits has.
use Rattle.std.specs.Prelude.{ℕ, ◌/◌, ◌%◌, ◌==◌, ◌&&◌, Bool, List, not, slice_index}
use Rattle.std.specs.Int.{bit_at}
use Rattle.bit_matrix.specs.Count.{count_below}
use Rattle.bit_matrix.specs.declared.set.BitSet.{BitSet}

-- Bit k of a word is 1.
abbrev pub is_bit : ℕ → ℕ → Bool
is_bit word k = bit_at word k == 1

-- Bit n of the words, from the lowest bit of the first on.
abbrev pub bit_of : List ℕ → ℕ → Bool
bit_of words n = is_bit (slice_index words (n / 64)) (n % 64)

unfoldable pub has : BitSet → ℕ → Bool
has set n = bit_of set.words.items n

-- How many numbers below a limit are in the new set and not in the old one.
abbrev pub new_below : BitSet → BitSet → ℕ → ℕ
new_below old new limit = count_below (λ n. has new n && not (has old n)) limit
