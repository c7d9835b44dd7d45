use Rattle.std.proofs.Common.{rules, reverse}
use Rattle.merge_sets.specs.World.{world}
use Rattle.merge_search.proofs.Costs.{pays_end, pays_none, pays_taken}
use Rattle.merge_search.proofs.Leading.{taken, none_left}
use Rattle.merge_search.proofs.search.do_all.Goals as goal

pub loop-init : goal.loop-init
loop-init g c = (λ end m. m, pays_none (world g.J.Judge.judgement c.args.graph.now) 0 _ _)

pub loop-preserved : goal.loop-preserved
loop-preserved g c =
    let v = world g.J.Judge.judgement c.args.graph.now in (
      taken v c.loop.tasks.items _ c.step.new.tasks.items (reverse c.args.tasks.now.items) c.in-Some.task c.step.new.search c.loop.search c.args.search.now
          c.in-Some.ensures.items c.loop.invariant.0 c.in_ok-step.ensures.turns,
      pays_taken v c.in-Some.task _ _ _ _ _ _ _ c.in-Some.ensures.items c.loop.invariant.1 c.in_ok-step.ensures.pays,
    )

pub returns-in_default-clause-meets : goal.returns-in_default-clause-meets
returns-in_default-clause-meets g c =
    none_left (world g.J.Judge.judgement c.args.graph.now) c.loop.tasks.items (reverse c.args.tasks.now.items) _ c.args.search.now (search rules) c.loop.invariant.0

pub returns-in_default-clause-spends : goal.returns-in_default-clause-spends
returns-in_default-clause-spends g c = pays_end (world g.J.Judge.judgement c.args.graph.now) _ c.loop.tasks.items _ _ (search rules) c.loop.invariant.1
