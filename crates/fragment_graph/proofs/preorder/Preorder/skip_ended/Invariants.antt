use Rattle.std.proofs.Common.{◌≡◌, length}
use Rattle.fragment_graph.specs.Preorder.{left}
use Rattle.fragment_graph.proofs.preorder.Preorder.skip_ended.Given as goal

abbrev pub invariant-loop-self : goal.invariant-loop-self
invariant-loop-self g l = left l.self ≡ left l.fn.self

abbrev pub decreases-loop-self : goal.decreases-loop-self
decreases-loop-self g l = length l.self.waiting.items
