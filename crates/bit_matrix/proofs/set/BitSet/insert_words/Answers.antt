use Rattle.std.proofs.Common.{◌≡◌, ◌+◌, ◌*◌, ◌&&◌, ℕ, not, refl, get_or, ◌∙◌, arith}
use Rattle.bit_matrix.specs.Count.{count_below}
use Rattle.bit_matrix.specs.Set.{has}
use Rattle.bit_matrix.proofs.Counts.{count_le, count_same, count_twice, in_words, no_words, next_word, in_word}
use Rattle.bit_matrix.proofs.set.BitSet.insert_words.Goals as goal

pub loop-i-init : goal.loop-i-init
loop-i-init c = (refl, λ n. no_words c.args.words.now (has c.args.self.now n) n, λ end room. count_same (has c.args.self.now) end)

pub overflow_add-added : goal.overflow_add-added
overflow_add-added c =
    let words = c.args.words.now in
    let i = c.loop-i.i in
    let end : ℕ = 64 * i + 64 in
    let twice : c.loop-i.added + c.insert_word-added.result ≡ count_below (λ n. has c.insert_word-added.new.self n && not (has c.args.self.now n)) end =
    omega (
      arith,
      c.loop-i.invariant.2 end (omega arith),
      c.insert_word-added.ensures.added end (omega arith),
      count_twice (has c.args.self.now) (has c.loop-i.self) (has c.insert_word-added.new.self) (in_words words i) (in_word i (get_or words i 0)) end c.loop-i.invariant.1 c.insert_word-added.ensures.union,
    ) in
    omega (arith, twice, count_le (λ n. has c.insert_word-added.new.self n && not (has c.args.self.now n)) end)

pub loop-i-preserved : goal.loop-i-preserved
loop-i-preserved c =
    let words = c.args.words.now in
    let i = c.loop-i.i in (
      c.insert_word-added.ensures.room ∙ c.loop-i.invariant.0,
      λ n. next_word words i (get_or words i 0) refl _ _ _ n (c.loop-i.invariant.1 n) (c.insert_word-added.ensures.union n),
      λ end room. omega (
        arith,
        c.loop-i.invariant.2 end (omega arith),
        c.insert_word-added.ensures.added end (omega arith),
        count_twice (has c.args.self.now) (has c.loop-i.self) (has c.insert_word-added.new.self) (in_words words i) (in_word i (get_or words i 0)) end c.loop-i.invariant.1 c.insert_word-added.ensures.union,
      ),
    )
