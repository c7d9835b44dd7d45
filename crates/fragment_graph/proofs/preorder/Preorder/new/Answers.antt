use Rattle.std.proofs.Common.{◌++◌, ap, append-nil, ◌∙◌}
use Rattle.fragment_graph.specs.Preorder.{all_waiting}
use Rattle.fragment_graph.proofs.preorder.Preorder.new.Goals as goal

pub returns : goal.returns
returns g c = ap (λ ws. c.args.set.now ++ all_waiting ws) c.new.ensures.items ∙ append-nil c.args.set.now
