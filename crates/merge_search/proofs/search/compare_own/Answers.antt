use Rattle.std.proofs.Common.{◌*◌}
use Rattle.merge_search.specs.Work.{OwnPairs}
use Rattle.merge_search.specs.Reports.{AtOwn}
use Rattle.merge_search.specs.declared.task.Task.TheVariants.{Own}
use Rattle.merge_search.specs.Tasks.{Compares, Meets}
use Rattle.merge_search.specs.Weight.{weight}
use Rattle.merge_search.proofs.Steps.{own_whole, compares_kept}
use Rattle.merge_search.specs.declared.state.Search.{Search}
use Rattle.merge_sets.specs.World.{world}
use Rattle.merge_search.proofs.Costs.{spends_none}
use Rattle.merge_search.proofs.Searching.{own_spends}
use Rattle.merge_search.proofs.Leading.{all_done}
use Rattle.merge_search.proofs.Work.{did_full}
use Rattle.merge_search.proofs.Adding.{all_full}
use Rattle.merge_search.proofs.search.compare_own.Goals as goal

pub returns : goal.returns
returns g c =
    let v = world g.J.Judge.judgement c.args.graph.now in
    let e = c.args.e in
    let s = c.args.search.now in
    let t : Search = c.take_tasks-tasks.new.search in
    let i = c.args.i in
    let j = c.args.j in
    let d = c.in_ok-finish.ensures.meets in
    let begun = c.in_ok-next_own.ensures in
    let whole : Compares v e (λ M. OwnPairs v M e i j) (AtOwn v i j) (AtOwn v i j) s c.finish.new.search =
    compares_kept v e (λ M. OwnPairs v M e i j) (AtOwn v i j) (AtOwn v i j) s t (d.0) _ c.take_tasks-tasks.ensures.keeps
    (own_whole v e i j t (d.0) (all_done v (Meets v (Own i j e 0)) _ _ _ t (d.0) c.take_tasks-tasks.ensures.none begun.turns d.1)) d.2 in
    record {
      done = whole.done;
      real = whole.real;
      spends = own_spends v c.args.graph.now.falling i j e _ _ s t _ _ c.take_tasks-tasks.ensures.keeps c.take_tasks-tasks.ensures.counts c.take_tasks-tasks.ensures.none begun.pays
          c.in_ok-finish.ensures.spends;
    }

pub returns-then-is_full : goal.returns-then-is_full
returns-then-is_full g c =
    let v = world g.J.Judge.judgement c.args.graph.now in
    let full = c.if-is_full.ensures in
    record { done = did_full v _ c.args.search.now full; real = all_full v c.args.e _ _ _ full; spends = spends_none v (weight v c.args.i * weight v c.args.j) c.args.search.now }
