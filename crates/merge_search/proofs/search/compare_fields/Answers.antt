use Rattle.std.proofs.Common.{subst}
use Rattle.merge_search.specs.Work.{Done}
use Rattle.merge_search.specs.Reports.{AtFields}
use Rattle.merge_search.specs.Spending.{Compares, settle_cost}
use Rattle.merge_search.specs.Tasks.{MeetsFields}
use Rattle.merge_search.proofs.Steps.{compares_kept}
use Rattle.merge_search.specs.Settle.{Settles}
use Rattle.merge_search.specs.declared.state.Search.{Search}
use Rattle.merge_sets.specs.World.{world}
use Rattle.merge_search.proofs.Costs.{fields_spend, settled_takes}
use Rattle.merge_search.proofs.Settling.{kept_twice}
use Rattle.merge_search.proofs.Leading.{all_done}
use Rattle.merge_search.proofs.search.compare_fields.Goals as goal

pub returns-then-branch : goal.returns-then-branch
returns-then-branch g c =
    let v = world g.J.Judge.judgement c.args.graph.now in
    let s : Search = c.args.search.now in
    let u : Search = c.settle.new.search in
    let z : MeetsFields v c.args.e c.args.a c.args.b s u = subst (λ is. Settles v c.args.e c.args.a c.args.b is s u) c.if-branch.true c.in_ok-settle.ensures.settled in
    record {
      done = z.done;
      real = z.real;
      takes = settled_takes v c.args.a c.args.b s u (subst (λ is. Compares (settle_cost v c.args.a c.args.b is) s u) c.if-branch.true c.in_ok-settle.ensures.counts);
    }

pub begin_below-requires : goal.begin_below-requires
begin_below-requires g c =
    let v = world g.J.Judge.judgement c.args.graph.now in
    let s : Search = c.args.search.now in
    let u : Search = c.settle.new.search in
    (subst (λ is. Settles v c.args.e c.args.a c.args.b is s u) c.if-branch.false c.in_ok-settle.ensures.settled).1

pub returns : goal.returns
returns g c =
    let v = world g.J.Judge.judgement c.args.graph.now in
    let e = c.args.e in
    let a = c.args.a in
    let b = c.args.b in
    let s : Search = c.args.search.now in
    let u : Search = c.settle.new.search in
    let still = subst (λ is. Settles v e a b is s u) c.if-branch.false c.in_ok-settle.ensures.settled in
    let looked = subst (λ is. Compares (settle_cost v a b is) s u) c.if-branch.false c.in_ok-settle.ensures.counts in
    let t : Search = c.take_tasks-tasks.new.search in
    let taken = c.take_tasks-tasks.ensures in
    let d = c.in_ok-finish.ensures.meets in
    let whole : MeetsFields v e a b s c.finish.new.search =
    compares_kept v e (λ M. Done v M e a b) (AtFields a b) (AtFields a b) s t (d.0) _ (kept_twice still.0 taken.keeps)
    (all_done v (MeetsFields v e a b) _ _ _ t (d.0) taken.none c.in_ok-begin_below.ensures.turns d.1) d.2 in
    record {
      done = whole.done;
      real = whole.real;
      takes = fields_spend v a b _ _ s u t _ looked taken.keeps taken.counts taken.none c.in_ok-begin_below.ensures.costs c.in_ok-finish.ensures.spends;
    }
