use Rattle.std.proofs.Common.{◌≡◌, ◌/◌, ◌<◌, true, false, not, length, ap, sym, inl, inr, ◌∙◌, arith}
use Rattle.std.proofs.lemmas.Bool.{cases_lt}
use Rattle.std.proofs.lemmas.List.{get_or_read}
use Rattle.bit_matrix.specs.Set.{has}
use Rattle.bit_matrix.proofs.Bits.{bit_there, bit_others, bit_new, bit_of_past}
use Rattle.bit_matrix.proofs.set.BitSet.insert.Goals as goal

pub returns-clause-there : goal.returns-clause-there
unfolding has
returns-clause-there c = bit_there c.grow.new.self.words.items c.args.n c.index-word.result.now (omega (arith, c.in_ok-grow.ensures.room))

pub returns-clause-others : goal.returns-clause-others
unfolding has
returns-clause-others c =
    let words = c.grow.new.self.words.items in
    let word = c.index-word.result.now in
    let within : c.args.n / 64 < length words = omega (arith, c.in_ok-grow.ensures.room) in
    λ m apart. bit_others words c.args.n word m within (get_or_read words (c.args.n / 64) word within c.index-word.ensures 0) apart
    ∙ c.in_ok-grow.ensures.same m

pub returns-clause-fresh : goal.returns-clause-fresh
unfolding has
returns-clause-fresh c =
    let words = c.grow.new.self.words.items in
    let word = c.index-word.result.now in
    bit_new words c.args.n word (get_or_read words (c.args.n / 64) word (omega (arith, c.in_ok-grow.ensures.room)) c.index-word.ensures 0)
    ∙ ap not (c.in_ok-grow.ensures.same c.args.n)

pub returns-in_err-grow-clause-succeeds : goal.returns-in_err-grow-clause-succeeds
unfolding has
returns-in_err-grow-clause-succeeds c = λ there.
    let words = c.args.self.now.words.items in
    elim (cases_lt (c.args.n / 64) (length words)) [
      | inl below ↦ let refused : false ≡ true = c.in_err-grow.ensures.succeeds (omega (arith, below)) in cc
      | inr past ↦ let none : true ≡ false = sym there ∙ bit_of_past words c.args.n past in cc
    ]
