use Rattle.std.proofs.Common.{◌+◌, length, ap, ◌∙◌, arith}
use Rattle.merge_graph.proofs.Ranks.{rank_low}
use Rattle.merge_graph.proofs.document.add_fragments.Goals as goal

pub loop-node-init : goal.loop-node-init
loop-node-init g c = record { built = c.requires.built; free = c.requires.free; many = ap length c.requires.none }

pub loop-node-preserved : goal.loop-node-preserved
loop-node-preserved g c = record {
  built = c.in_ok-add_next.ensures.built;
  free = c.in_ok-add_next.ensures.free;
  many = c.in_ok-add_next.ensures.longer ∙ ap (λ n. n + 1) c.loop-node.invariant.many;
}

pub returns-clause-all : goal.returns-clause-all
returns-clause-all g c = λ name q h.
    let l = rank_low c.args.document.now c.args.cycles.now c.requires.ranked.searched name q h in
    let far = c.loop-node-test.false in
    let at = c.loop-node.invariant.many in
    let same = ap length c.as_slice-node-items.ensures.value in
    omega (arith, l, far, at, same)
