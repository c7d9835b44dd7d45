use Rattle.std.proofs.Common.{◌+◌, ◌<◌, ◌≤◌, ap, arith, below_more, inl, inr, length}
use Rattle.std.proofs.lemmas.Bool.{cases_lt}
use Rattle.merge_search.specs.Spending.{sum_below}
use Rattle.merge_sets.specs.World.{world, own_of}
use Rattle.merge_sets.proofs.NoSet.{no_own}
use Rattle.merge_tops.proofs.Spends.{sum_next}
use Rattle.merge_tops.proofs.asking.count_own.Goals as goal

pub loop-s-preserved : goal.loop-s-preserved
loop-s-preserved g c =
    let w = world g.J.Judge.judgement c.args.graph.now in
    let s = c.loop-s.s in
    let adds = c.saturating_add-count.ensures in
    let own_is = ap length c.own.ensures in
    let next = sum_next (λ i. length (own_of w i)) s in
    let most : c.saturating_add-count.result ≤ sum_below (λ i. length (own_of w i)) (s + 1) = omega (arith, c.loop-s.invariant.0, adds, own_is, next) in (
      most,
      below_more (λ i. 0 < length (own_of w i) → 0 < c.saturating_add-count.result) s
          (λ i l own. omega (arith, c.loop-s.invariant.1 i l own, adds)) (λ own. omega (arith, own, adds, own_is)),
    )

pub returns-clause-some : goal.returns-clause-some
returns-clause-some g c s own = elim (cases_lt s c.loop-s.s) [
  | inl l ↦ c.loop-s.invariant.1 s l own
  | inr past ↦
      let none = no_own (world g.J.Judge.judgement c.args.graph.now) s (omega (arith, past, c.len-s-end.ensures, c.loop-s-test.false)) in
      absurd (omega (arith, own, none))
]
