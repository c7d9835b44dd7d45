use Rattle.std.proofs.Common.{sym, ◌∙◌, arith, inl, inr}
use Rattle.merge_sets.specs.World.{world}
use Rattle.merge_search.proofs.Adding.{all_full}
use Rattle.merge_search.proofs.Settling.{failing_settled, kept_twice, leaf_settled, settles}
use Rattle.merge_search.proofs.Spent.{settle_once, settle_pays, settle_told}
use Rattle.merge_search.proofs.Work.{did_full}
use Rattle.merge_search.proofs.settle.settle.Goals as goal

pub returns-then-is_full-clause-settled : goal.returns-then-is_full-clause-settled
returns-then-is_full-clause-settled g c =
    let v = world g.J.Judge.judgement c.args.graph.now in
    let full = c.if-is_full.ensures in
    record { done = did_full v _ c.args.search.now full; real = all_full v c.args.e _ _ _ full }

pub returns-then-in_conflict-clause-settled : goal.returns-then-in_conflict-clause-settled
returns-then-in_conflict-clause-settled g c =
    let v = world g.J.Judge.judgement c.args.graph.now in
    failing_settled v c.args.e c.args.a c.args.b _ _ _ c.count_fields.ensures.keeps (sym c.in_ok-in_conflict.ensures ∙ c.if-in_conflict.true) c.in_ok-report.ensures

pub returns-in_ok-is_clear-in-Some-Some-clause-settled : goal.returns-in_ok-is_clear-in-Some-Some-clause-settled
returns-in_ok-is_clear-in-Some-Some-clause-settled g c =
    let v = world g.J.Judge.judgement c.args.graph.now in
    let passes = sym c.in_ok-in_conflict.ensures ∙ c.if-in_conflict.false in
    let told = c.in_ok-is_clear-in-Some-Some.ensures in
    settles v c.args.e c.args.a c.args.b _ _ (kept_twice c.count_fields.ensures.keeps told.keeps) passes c.in_ok-is_clear-in-Some-Some.is_clear told.clear

pub returns-in_ok-is_clear-in-Some-Some-clause-counts : goal.returns-in_ok-is_clear-in-Some-Some-clause-counts
returns-in_ok-is_clear-in-Some-Some-clause-counts g c =
    let v = world g.J.Judge.judgement c.args.graph.now in
    settle_pays v c.args.graph.now.falling c.args.a c.args.b _ _ c.in-Some-Some.is-0 c.in-Some-Some.is-1 c.in_ok-is_clear-in-Some-Some.is_clear _ _ _ c.count_fields.ensures
    c.in_ok-is_clear-in-Some-Some.ensures.counts

pub returns-in_default-clause-settled : goal.returns-in_default-clause-settled
returns-in_default-clause-settled g c =
    let v = world g.J.Judge.judgement c.args.graph.now in
    leaf_settled v c.args.e c.args.a c.args.b _ _ c.count_fields.ensures.keeps (sym c.in_ok-in_conflict.ensures ∙ c.if-in_conflict.false) (inr c.in_default.is-1)

pub returns-in_default-2-clause-settled : goal.returns-in_default-2-clause-settled
returns-in_default-2-clause-settled g c =
    let v = world g.J.Judge.judgement c.args.graph.now in
    leaf_settled v c.args.e c.args.a c.args.b _ _ c.count_fields.ensures.keeps (sym c.in_ok-in_conflict.ensures ∙ c.if-in_conflict.false) (inl c.in_default.is-0)

pub returns-then-in_conflict-clause-counts : goal.returns-then-in_conflict-clause-counts
returns-then-in_conflict-clause-counts g c =
    settle_told (world g.J.Judge.judgement c.args.graph.now) c.args.a c.args.b _ _ _ c.count_fields.ensures c.in_ok-report.ensures

pub returns-in_default-clause-counts : goal.returns-in_default-clause-counts
returns-in_default-clause-counts g c =
    settle_once (world g.J.Judge.judgement c.args.graph.now) c.args.a c.args.b _ _ c.count_fields.ensures

pub returns-in_default-2-clause-counts : goal.returns-in_default-2-clause-counts
returns-in_default-2-clause-counts g c =
    settle_once (world g.J.Judge.judgement c.args.graph.now) c.args.a c.args.b _ _ c.count_fields.ensures

pub returns-then-is_full-clause-ticks : goal.returns-then-is_full-clause-ticks
returns-then-is_full-clause-ticks g c = λ room. absurd (c.if-is_full.ensures room)

pub returns-then-in_conflict-clause-ticks : goal.returns-then-in_conflict-clause-ticks
returns-then-in_conflict-clause-ticks g c = λ _. omega (arith, c.count_fields.ensures.judged, c.in_ok-report.ensures.judged)

pub returns-in_ok-is_clear-in-Some-Some-clause-ticks : goal.returns-in_ok-is_clear-in-Some-Some-clause-ticks
returns-in_ok-is_clear-in-Some-Some-clause-ticks g c =
    λ _. omega (arith, c.count_fields.ensures.judged, c.in_ok-is_clear-in-Some-Some.ensures.counts.more)

pub returns-in_default-clause-ticks : goal.returns-in_default-clause-ticks
returns-in_default-clause-ticks g c = λ _. omega (arith, c.count_fields.ensures.judged)

pub returns-in_default-2-clause-ticks : goal.returns-in_default-2-clause-ticks
returns-in_default-2-clause-ticks g c = λ _. omega (arith, c.count_fields.ensures.judged)
