use Rattle.std.proofs.lemmas.Result.{IfOk-weaker}
use Rattle.graph_ways.specs.Onward.{LeadBack}
use Rattle.graph_ways.specs.Ways.{Counts}
use Rattle.graph_ways.proofs.Leading.{counts}
use Rattle.graph_ways.proofs.onward.ways_of.Goals as goal

pub returns-clause-looked : goal.returns-clause-looked
returns-clause-looked c =
    let g = c.args.graph.now in
    IfOk-weaker c.onward_of.result (LeadBack g) (λ w. Counts g w.order.looked.items w.entered.items)
    (λ w h. counts g w h) c.onward_of.ensures
