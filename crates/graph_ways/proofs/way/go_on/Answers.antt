use Rattle.std.proofs.Common.{refl}
use Rattle.graph_ways.proofs.Leading.{nearer_end, outward_more}
use Rattle.graph_ways.proofs.way.go_on.Goals as goal

pub returns-clause-outward : goal.returns-clause-outward
returns-clause-outward c =
    outward_more c.args.graph.now c.args.ways.now c.requires.ways c.args.node c.args.path.now _ c.in-Some.link c.requires.outward
    (rw c.as_slice.ensures.value at c.in-Some.ensures) c.in_ok-push-in-Some.ensures.items refl

pub returns-clause-nearer : goal.returns-clause-nearer
returns-clause-nearer c = λ h.
    nearer_end c.args.graph.now c.args.ways.now h c.args.node c.args.path.now c.in-Some.link c.requires.outward c.requires.not
    (rw c.as_slice.ensures.value at c.in-Some.ensures)
