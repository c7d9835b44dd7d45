use Rattle.std.proofs.Common.{length, ap, arith}
use Rattle.std.proofs.lemmas.Option.{slice_get_within}
use Rattle.fragment_graph.specs.Graph.{spreads_of}
use Rattle.fragment_graph.proofs.Steps.{last_link, sound_met}
use Rattle.fragment_graph.proofs.search.report_cycle.Goals as goal

pub overflow_sub-spread : goal.overflow_sub-spread
overflow_sub-spread c =
    let k = last_link c.args.graph.now c.args.search.now c.args.node c.args.depth c.index-step.result.now c.requires.in_work c.index-step.ensures c.requires.sound in
    let last = k.1.1.last in
    omega (arith, last)

pub offset_bounds-spreads-step : goal.offset_bounds-spreads-step
offset_bounds-spreads-step c =
    let k = last_link c.args.graph.now c.args.search.now c.args.node c.args.depth c.index-step.result.now c.requires.in_work c.index-step.ensures c.requires.sound in
    let last = k.1.1.last in
    let inside = slice_get_within (spreads_of c.args.graph.now c.index-step.result.now.node) k.1.1.before k.1.1.spread k.1.1.stands in
    omega (arith, last, inside, ap length c.spreads.ensures, c.spreads.type_inv.1)

pub bounds-spreads-step : goal.bounds-spreads-step
bounds-spreads-step c =
    let k = last_link c.args.graph.now c.args.search.now c.args.node c.args.depth c.index-step.result.now c.requires.in_work c.index-step.ensures c.requires.sound in
    let last = k.1.1.last in
    let inside = slice_get_within (spreads_of c.args.graph.now c.index-step.result.now.node) k.1.1.before k.1.1.spread k.1.1.stands in
    omega (arith, last, inside, ap length c.spreads.ensures)

pub returns-clause-sound : goal.returns-clause-sound
returns-clause-sound c =
    sound_met c.args.graph.now c.args.search.now c.args.node c.args.depth c.index-step.result.now c.spreads.result.now _ c.push.new.self.items
    c.requires.in_work c.index-step.ensures c.spreads.ensures c.in_ok-push.ensures.items c.requires.sound
