use Rattle.std.proofs.Common.{◌≡◌, ◌<◌, ◌∙◌, Some, ap, arith, false, length, refl, slice_get, true}
use Rattle.std.proofs.lemmas.Option.{slice_get_read}
use Rattle.fragment_graph.proofs.Lists.{set_keep}
use Rattle.graph_ways.specs.Leaving.{IsMet}
use Rattle.graph_ways.proofs.Leaving.{goes_on, stays}
use Rattle.graph_ways.proofs.order.look.Goals as goal

pub returns-then-index-clause-at : goal.returns-then-index-clause-at
returns-then-index-clause-at c =
    let g = c.args.graph.now in
    let s = c.args.search.now in
    let l = c.args.link in
    let r = c.requires in
    let met = s.met.items in
    let inside : l.edge.target < length g = r.graph l.from c.args.index l.edge r.edge in
    let sized : length met ≡ length g = r.at.sound.met_sized in
    let short : l.edge.target < length met = omega (arith, inside, sized) in
    let read = slice_get_read met (length met) l.edge.target c.index.result.now refl short c.index.ensures in
    let is : IsMet met l.edge.target = read ∙ ap Some c.if-index.true in
    record { sound = stays s.trail.items l.from r.at.sound c.args.index l.edge r.next r.edge is }

pub returns-clause-at : goal.returns-clause-at
returns-clause-at c =
    let g = c.args.graph.now in
    let s = c.args.search.now in
    let l = c.args.link in
    let r = c.requires in
    let met = s.met.items in
    let inside : l.edge.target < length g = r.graph l.from c.args.index l.edge r.edge in
    let sized : length met ≡ length g = r.at.sound.met_sized in
    let short : l.edge.target < length met = omega (arith, inside, sized) in
    let read = slice_get_read met (length met) l.edge.target c.index.result.now refl short c.index.ensures in
    let new : slice_get met l.edge.target ≡ Some false = read ∙ ap Some c.if-index.false in
    let trail = c.in_ok-push.ensures.items in
    record {
      sound = rw (c.len-first.ensures ∙ s.order.nodes.ok.0)
          (goes_on s.trail.items l.from r.at.sound c.push.new.self.items l c.args.index refl trail r.next r.edge inside new);
    }

pub returns-clause-keeps : goal.returns-clause-keeps
returns-clause-keeps c =
    let g = c.args.graph.now in
    let l = c.args.link in
    let r = c.requires in
    let met = c.args.search.now.met.items in
    let inside : l.edge.target < length g = r.graph l.from c.args.index l.edge r.edge in
    let sized : length met ≡ length g = r.at.sound.met_sized in
    let short : l.edge.target < length met = omega (arith, inside, sized) in
    let read = slice_get_read met (length met) l.edge.target c.index.result.now refl short c.index.ensures in
    let new : slice_get met l.edge.target ≡ Some false = read ∙ ap Some c.if-index.false in
    λ v is. set_keep met l.edge.target v false true true new (λ e. cc) is
