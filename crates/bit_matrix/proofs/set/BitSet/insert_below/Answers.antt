use Rattle.std.proofs.Common.{◌≡◌, ◌+◌, ◌*◌, ◌/◌, ◌&&◌, ◌||◌, ℕ, Bool, min, not, nat_lt, List, length, take, ap, ◌∙◌, sym, arith}
use Rattle.std.proofs.lemmas.List.{length-take}
use Rattle.bit_matrix.specs.Count.{count_below}
use Rattle.bit_matrix.specs.Set.{has, bit_of}
use Rattle.bit_matrix.proofs.Counts.{count_le, in_word, below_limit, below_whole, added_below, both_unions, both_added}
use Rattle.bit_matrix.proofs.set.BitSet.insert_below.Goals as goal

-- the words alone
whole_union : (c : goal.After-insert_words) (n : ℕ) → has c.insert_words.new.self n ≡ (has c.args.self.now n || (bit_of c.deref.result.now n && nat_lt n c.args.limit))
unfolding has
whole_union c n =
    let words = c.deref.result.now in
    let whole = c.min-whole.result in
    let fits : whole ≡ min (length words) (c.args.limit / 64) = omega (arith, c.min-whole.ensures, c.len.ensures, c.deref.ensures.len) in
    c.insert_words.ensures.union n
    ∙ (ap (λ (b : Bool). b || bit_of c.used-words.result.now n) (c.in_ok-grow.ensures.same n)
    ∙ ap (λ (b : Bool). has c.args.self.now n || b)
    (c.used-words.ensures.same n
    ∙ below_whole words whole c.args.limit c.word_below-cut.result fits
    (λ m row. c.word_below-cut.ensures m row ∙ ap (λ (ws : List ℕ). bit_of ws m && nat_lt m c.args.limit) (sym c.deref.ensures.value)) c.if-cut-eq0.true n))

pub returns-then-cut-eq0-clause-union : goal.returns-then-cut-eq0-clause-union
unfolding has
returns-then-cut-eq0-clause-union c = λ n. whole_union c n
    ∙ ap (λ (ws : List ℕ). has c.args.self.now n || (bit_of ws n && nat_lt n c.args.limit)) c.deref.ensures.value

pub returns-then-cut-eq0-clause-added : goal.returns-then-cut-eq0-clause-added
returns-then-cut-eq0-clause-added c =
    let limit = c.args.limit in
    added_below (has c.args.self.now) (has c.grow.new.self) (has c.insert_words.new.self) (bit_of c.deref.result.now) limit limit c.insert_words.result (omega arith)
    c.in_ok-grow.ensures.same (whole_union c)
    (c.insert_words.ensures.added limit (omega (arith, c.used-words.ensures.within, c.min-whole.ensures, length-take {A = ℕ})))

-- the words, and the word that is cut
both : (c : goal.After-insert_word-last) (n : ℕ)
    → (bit_of (take c.min-whole.result c.deref-2.result.now) n || in_word (c.args.limit / 64) c.word_below-cut.result n) ≡ (bit_of c.deref-2.result.now n && nat_lt n c.args.limit)
unfolding has
both c =
    let words = c.deref-2.result.now in
    let whole = c.min-whole.result in
    let fits : whole ≡ min (length words) (c.args.limit / 64) = omega (arith, c.min-whole.ensures, c.len.ensures, c.deref-2.ensures.len) in
    below_limit words whole c.args.limit c.word_below-cut.result fits
    (λ m row. c.word_below-cut.ensures m row ∙ ap (λ (ws : List ℕ). bit_of ws m && nat_lt m c.args.limit) (sym c.deref-2.ensures.value))

total : (c : goal.After-insert_word-last)
    → c.insert_words-before.result + c.insert_word-last.result ≡ count_below (λ n. has c.insert_word-last.new.self n && not (has c.args.self.now n)) c.args.limit
total c =
    let words = c.deref-2.result.now in
    let limit = c.args.limit in
    let end : ℕ = 64 * (limit / 64) + 64 in
    both_added (has c.args.self.now) (has c.grow-2.new.self) (has c.insert_words-before.new.self) (has c.insert_word-last.new.self)
    (bit_of (take c.min-whole.result words)) (in_word (limit / 64) c.word_below-cut.result) (bit_of words) limit
    c.in_ok-grow-2.ensures.same c.insert_words-before.ensures.union c.insert_word-last.ensures.union (both c)
    end c.insert_words-before.result c.insert_word-last.result (omega arith)
    (c.insert_words-before.ensures.added end (omega (arith, c.min-whole.ensures, length-take {A = ℕ}))) (c.insert_word-last.ensures.added end (omega arith))

pub overflow_add-result : goal.overflow_add-result
overflow_add-result c = omega (arith, total c, count_le (λ n. has c.insert_word-last.new.self n && not (has c.args.self.now n)) c.args.limit)

pub returns-clause-union : goal.returns-clause-union
unfolding has
returns-clause-union c = λ n.
    both_unions (has c.args.self.now) (has c.grow-2.new.self) (has c.insert_words-before.new.self) (has c.insert_word-last.new.self)
    (bit_of (take c.min-whole.result c.deref-2.result.now)) (in_word (c.args.limit / 64) c.word_below-cut.result) (bit_of c.deref-2.result.now) c.args.limit
    c.in_ok-grow-2.ensures.same c.insert_words-before.ensures.union c.insert_word-last.ensures.union (both c) n
    ∙ ap (λ (ws : List ℕ). has c.args.self.now n || (bit_of ws n && nat_lt n c.args.limit)) c.deref-2.ensures.value

pub returns-clause-added : goal.returns-clause-added
returns-clause-added c = total c
