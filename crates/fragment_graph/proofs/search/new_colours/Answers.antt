use Rattle.std.proofs.lemmas.Result.{IfOk-weaker}
use Rattle.fragment_graph.proofs.search.new_colours.Goals as goal

pub returns : goal.returns
returns c = IfOk-weaker c.vec.result _ _ (λ v h. h (λ y e. e)) c.vec.ensures.items_if_clones_equal
