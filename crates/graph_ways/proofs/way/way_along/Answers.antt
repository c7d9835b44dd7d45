use Rattle.std.proofs.Common.{List, ap, ◌++◌, ◌∙◌}
use Rattle.type_system_circles.specs.declared.graph.Link.{Link}
use Rattle.graph_ways.proofs.Leading.{joined, outward_inside}
use Rattle.graph_ways.proofs.way.way_along.Goals as goal

pub climb-requires-clause-above : goal.climb-requires-clause-above
climb-requires-clause-above c =
    (outward_inside c.args.graph.now c.args.ways.now c.requires.ways c.args.first.from _ c.in_ok-links.ensures.outward).1

pub climb-requires-clause-node : goal.climb-requires-clause-node
climb-requires-clause-node c =
    (outward_inside c.args.graph.now c.args.ways.now c.requires.ways c.args.first.from _ c.in_ok-links.ensures.outward).0

pub returns : goal.returns
returns c =
    let p = c.in_ok-links.field-0 in
    let o = c.in_ok-links.ensures.outward in
    joined c.args.graph.now c.args.first.from p.end p.links.items c.in_ok-found.found.items c.extend_from_slice.new.self.items
    (c.in_ok-extend_from_slice.ensures.items
    ∙ ap (λ (ls : List Link). p.links.items ++ ls) (c.as_slice.ensures.value ∙ c.reverse.ensures.items))
    o.walk o.some c.in_ok-found.ensures
