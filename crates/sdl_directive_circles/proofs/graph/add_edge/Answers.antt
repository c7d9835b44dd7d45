use Rattle.std.proofs.Common.{length, refl, slice_set}
use Rattle.std.proofs.lemmas.Option.{slice_get_read}
use Rattle.sdl_directive_circles.proofs.Adding.{edge_added}
use Rattle.sdl_directive_circles.proofs.graph.add_edge.Goals as goal

pub returns : goal.returns
returns c =
    let nodes = c.args.nodes.now.items in
    edge_added nodes (slice_set nodes c.args.from (record { edges = c.push.new.self })) c.args.from c.args.target c.index_mut.result.now
    (record { edges = c.push.new.self })
    (slice_get_read nodes (length nodes) c.args.from c.index_mut.result.now refl c.requires c.index_mut.ensures.value) refl
    c.in_ok-push.ensures.items
