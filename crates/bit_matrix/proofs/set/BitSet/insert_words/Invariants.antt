use Rattle.std.proofs.Common.{◌≡◌, ◌≤◌, ◌*◌, ◌&&◌, ◌||◌, ℕ, not, length}
use Rattle.bit_matrix.specs.Count.{count_below}
use Rattle.bit_matrix.specs.Set.{has}
use Rattle.bit_matrix.proofs.Counts.{in_words}
use Rattle.bit_matrix.proofs.set.BitSet.insert_words.Given as goal

abbrev pub invariant-loop-i : goal.invariant-loop-i
invariant-loop-i l =
    (length l.self.words.items ≡ length l.fn.self.words.items)
    × ((n : ℕ) → has l.self n ≡ (has l.fn.self n || in_words l.words l.i n))
    × ((end : ℕ) → 64 * l.i ≤ end → l.added ≡ count_below (λ n. has l.self n && not (has l.fn.self n)) end)
