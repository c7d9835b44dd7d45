use Rattle.std.proofs.Common.{List, ap, refl, ◌++◌, ◌∷◌, [], ◌∙◌}
use Rattle.type_system_circles.specs.declared.graph.Link.{Link}
use Rattle.graph_ways.proofs.Leading.{outward_one}
use Rattle.graph_ways.proofs.way.path_along.Goals as goal

pub returns : goal.returns
returns c =
    let l = c.args.link in
    outward_one c.args.graph.now c.args.ways.now c.requires.ways l _ c.requires.onward
    (c.in_ok-push.ensures.items ∙ ap (λ (ls : List Link). ls ++ l ∷ []) c.new-links.ensures.items) refl
