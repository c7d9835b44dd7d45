use Rattle.std.proofs.Common.{arith, below_more, length, inl, inr, refl}
use Rattle.std.proofs.lemmas.Bool.{cases_lt}
use Rattle.std.proofs.lemmas.Option.{slice_get_read}
use Rattle.variable_usages.proofs.Skipping.{no_uses, past_uses}
use Rattle.variable_usages.proofs.undefined.is_any_used.Goals as goal

pub loop-uses-preserved : goal.loop-uses-preserved
loop-uses-preserved c =
    let all = c.args.all.now in
    below_more _ _ c.loop-uses.invariant
    (no_uses all c.loop-uses.uses-index c.uses-item.result c.is_empty.result (slice_get_read all (length all) c.loop-uses.uses-index c.uses-item.result refl c.loop-uses-test.true c.uses-item.is)
    c.is_empty.ensures c.if-not-is_empty.false)

pub returns-clause-none : goal.returns-clause-none
returns-clause-none c = inr (λ k. elim (cases_lt k c.loop-uses.uses-index) [
  | inl before ↦ c.loop-uses.invariant k before
  | inr past ↦ past_uses c.args.all.now k (let end = c.loop-uses-test.false in omega (arith, past, end))
])
