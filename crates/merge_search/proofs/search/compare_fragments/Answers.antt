use Rattle.std.proofs.Common.{arith}
use Rattle.merge_search.specs.Work.{Pair}
use Rattle.merge_search.specs.Reports.{AtFragments}
use Rattle.merge_search.specs.Tasks.{MeetsFragments, Searches}
use Rattle.merge_search.proofs.Steps.{searches_kept}
use Rattle.merge_search.specs.declared.state.Search.{Search}
use Rattle.merge_sets.specs.World.{world}
use Rattle.merge_search.proofs.Costs.{begun_spends, spends_none}
use Rattle.merge_search.proofs.Leading.{all_done}
use Rattle.merge_search.proofs.Work.{did_full}
use Rattle.merge_search.proofs.Adding.{adds_none}
use Rattle.merge_search.proofs.search.compare_fragments.Goals as goal

pub returns : goal.returns
returns g c =
    let v = world g.J.Judge.judgement c.args.graph.now in
    let e = c.args.e in
    let s = c.args.search.now in
    let t : Search = c.take_tasks-tasks.new.search in
    let d = c.in_ok-finish.ensures.meets in
    let begun = c.in_ok-begin_fragments.ensures in
    let whole : Searches v e (λ M. Pair M e c.args.f c.args.g) (AtFragments v c.args.f c.args.g) s c.finish.new.search =
    searches_kept v e (λ M. Pair M e c.args.f c.args.g) (AtFragments v c.args.f c.args.g) s t (d.0) _ c.take_tasks-tasks.ensures.keeps
    (all_done v (MeetsFragments v e c.args.f c.args.g) _ _ _ t (d.0) c.take_tasks-tasks.ensures.none begun.turns d.1 c.requires.first c.requires.second) d.2 in
    record {
      done = whole.done;
      real = whole.real;
      spends = begun_spends v 0 0 _ _ s t _ _ c.take_tasks-tasks.ensures.keeps c.take_tasks-tasks.ensures.counts c.take_tasks-tasks.ensures.none (omega arith) begun.pays c.in_ok-finish.ensures.spends;
    }

pub returns-then-is_full : goal.returns-then-is_full
returns-then-is_full g c =
    let v = world g.J.Judge.judgement c.args.graph.now in
    let full = c.if-is_full.ensures in
    record { done = did_full v _ c.args.search.now full; real = adds_none v c.args.e _ _; spends = spends_none v 0 c.args.search.now }
