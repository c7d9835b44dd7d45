use Rattle.std.proofs.Common.{arith}
use Rattle.graph_ways.proofs.way.outward.Goals as goal

pub loop-init : goal.loop-init
loop-init c =
    let o = c.in_ok-path.ensures in
    record {
      outward = o;
      near = λ h. let shallow = h.sound.shallow c.in_ok-path.path.end o.root o.there in omega (arith, shallow);
    }

pub loop-preserved : goal.loop-preserved
loop-preserved c = record {
  outward = c.in_ok-go_on.ensures.outward;
  near = λ h.
      let less = c.in_ok-go_on.ensures.nearer h in
      let old = c.loop.invariant.near h in
      omega (arith, less, old);
}

pub unreachable-requires : goal.unreachable-requires
unreachable-requires c = let near = c.loop.invariant.near c.requires.ways in omega (arith, near)
