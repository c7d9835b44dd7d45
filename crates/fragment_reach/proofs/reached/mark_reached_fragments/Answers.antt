use Rattle.std.proofs.Common.{subst, List}
use Rattle.std.proofs.lemmas.Result.{IfOk-weaker}
use Rattle.fragment_graph.specs.declared.graph.Node.{Node}
use Rattle.fragment_graph.specs.declared.graph.Spread.{Spread}
use Rattle.fragment_reach.specs.Search.{MarksReached}
use Rattle.fragment_reach.proofs.Reaching.{marks_names}
use Rattle.fragment_reach.proofs.reached.mark_reached_fragments.Goals as goal

pub returns : goal.returns
returns g c =
    IfOk-weaker c.mark_reached.result _ _
    (λ marks h. marks_names c.args.document.now c.args.graph.now c.requires.graph marks.items
    (subst (λ (zs : List Spread). MarksReached c.args.graph.now.nodes.items zs marks.items) c.requires.starts
    (subst (λ (zs : List Node). MarksReached zs c.args.starts.now marks.items) c.as_slice.ensures.value h)))
    c.mark_reached.ensures
