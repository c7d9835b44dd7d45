use Rattle.std.proofs.Common.{◌≡◌, ◌+◌, ◌-◌, arith, length}
use Rattle.graph_ways.proofs.onward.search_all.Goals as goal

pub loop-done-init : goal.loop-done-init
loop-done-init c =
    let all : length c.args.graph.now - 0 ≡ length c.args.graph.now = omega arith in
    rw all c.requires.idle

pub visit-requires-clause-idle : goal.visit-requires-clause-idle
visit-requires-clause-idle c =
    let n = length c.args.graph.now in
    let next : (n - 1 - c.loop-done.done) + 1 ≡ n - c.loop-done.done = omega arith in
    rw next c.loop-done.invariant

pub loop-done-preserved : goal.loop-done-preserved
loop-done-preserved c =
    let n = length c.args.graph.now in
    let next : n - (c.loop-done.done + 1) ≡ n - 1 - c.loop-done.done = omega arith in
    rw next c.in_ok-visit.ensures

pub returns : goal.returns
returns c =
    let none : length c.args.graph.now - c.loop-done.done ≡ 0 = omega arith in
    rw none at c.loop-done.invariant
