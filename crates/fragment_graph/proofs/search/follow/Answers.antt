use Rattle.std.proofs.Common.{◌∷◌, [], ◌+◌, List, sym, subst, arith, ◌∙◌}
use Rattle.std.proofs.lemmas.Result.{on_ok_weaker}
use Rattle.std.proofs.lemmas.Option.{slice_get_within}
use Rattle.fragment_graph.specs.declared.search.Step.{Step}
use Rattle.fragment_graph.specs.Graph.{spreads_of}
use Rattle.fragment_graph.specs.Sound.{Sound}
use Rattle.fragment_graph.proofs.Counts.{path_left-push, spread_count-le}
use Rattle.fragment_graph.proofs.Steps.{sound_look}
use Rattle.fragment_graph.proofs.search.follow.Goals as goal

pub overflow_add-search : goal.overflow_add-search
overflow_add-search c =
    let s = c.args.search.now in
    let q = c.requires in
    let room = slice_get_within (spreads_of c.args.graph.now c.args.step.node) c.args.step.looked c.in-Some.spread (sym c.spread_at.ensures ∙ c.in-Some.is) in
    omega (arith, q.counted, q.sized, s.colours.ok.0, s.colours.ok.1, s.colours.small, room, path_left-push c.args.graph.now s.path.items c.args.step, spread_count-le c.args.graph.now)

pub meet-requires : goal.meet-requires
meet-requires c =
    let s = c.args.search.now in
    subst (λ (zs : List Step). Sound c.args.graph.now zs (c.in-Some.spread.target ∷ []) s.colours.items s.order.items s.reports.items (s.looked + 1))
    (sym c.in_ok-push-in-Some.ensures.items)
    (sound_look c.args.graph.now s.path.items c.args.step c.in-Some.spread s.colours.items s.order.items s.reports.items s.looked (sym c.spread_at.ensures ∙ c.in-Some.is) c.requires)

pub returns-in_ok-push-in-Some-clause-left : goal.returns-in_ok-push-in-Some-clause-left
returns-in_ok-push-in-Some-clause-left c =
    let s = c.args.search.now in
    let q = c.requires in
    let room = slice_get_within (spreads_of c.args.graph.now c.args.step.node) c.args.step.looked c.in-Some.spread (sym c.spread_at.ensures ∙ c.in-Some.is) in
    on_ok_weaker c.meet.result
    (λ e. omega (arith, e, q.counted, room, path_left-push c.args.graph.now s.path.items c.args.step))
    c.meet.ensures.left
