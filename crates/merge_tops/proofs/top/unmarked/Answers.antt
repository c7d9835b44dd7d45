use Rattle.std.proofs.Common.{subst, sym, arith}
use Rattle.std.specs.List.{All, Contains}
use Rattle.std.proofs.lemmas.List.{length-take, take_all}
use Rattle.std.proofs.lemmas.List.Elements.{All-nil}
use Rattle.merge_sets.specs.World.{world}
use Rattle.merge_tops.specs.Tops.{AreAllBut}
use Rattle.merge_tops.proofs.Spreads.{unmarked_more}
use Rattle.merge_tops.proofs.top.unmarked.Goals as goal

pub loop-g-init : goal.loop-g-init
loop-g-init g c = record {
  only = subst (λ zs. All (λ k. Contains c.args.list.now k) zs) (sym c.new-others.ensures.items) (All-nil (λ k. Contains c.args.list.now k));
  all = λ i d l. absurd (omega (arith, length-take 0 c.args.list.now, l));
}

pub loop-g-preserved : goal.loop-g-preserved
loop-g-preserved g c =
    unmarked_more (world g.J.Judge.judgement c.args.graph.now) c.args.list.now c.loop-g.others.items c.add_unmarked.new.others.items c.loop-g.g-index 0 c.loop-g-test.true c.loop-g.invariant c.in_ok-add_unmarked.ensures

pub returns : goal.returns
returns g c = subst (λ zs. AreAllBut (world g.J.Judge.judgement c.args.graph.now) c.args.list.now zs c.loop-g.others.items) (take_all c.loop-g.g-index c.args.list.now c.loop-g-test.false) c.loop-g.invariant
