use Rattle.merge_sets.specs.World.{world}
use Rattle.merge_search.proofs.Costs.{takes_after}
use Rattle.merge_search.proofs.search.finish.Goals as goal

pub returns-clause-meets : goal.returns-clause-meets
returns-clause-meets g c = (c.do_all.new.search, c.in_ok-do_all.ensures.meets, c.put_tasks.ensures.keeps)

pub returns-clause-spends : goal.returns-clause-spends
returns-clause-spends g c = takes_after (world g.J.Judge.judgement c.args.graph.now) _ _ _ _ c.in_ok-do_all.ensures.spends c.put_tasks.ensures.keeps c.put_tasks.ensures.counts
