use Rattle.std.proofs.Common.{◌≡◌, false, subst}
use Rattle.std.proofs.lemmas.List.{take_all}
use Rattle.std.proofs.lemmas.List.Elements.{All-more}
use Rattle.merge_sets.specs.declared.node.Entry.{Entry}
use Rattle.merge_search.specs.Settle.{AgreesWith}
use Rattle.merge_sets.specs.World.{world, conflict_of, Same}
use Rattle.merge_sets.proofs.OneName.{no_entry}
use Rattle.merge_search.proofs.settle.agrees_with.Goals as goal

pub loop-d-preserved : goal.loop-d-preserved
loop-d-preserved g c =
    let v = world g.J.Judge.judgement c.args.graph.now in
    All-more (λ (d : Entry). Same c.args.c d → conflict_of v c.args.e c.args.c d ≡ false) c.args.others.now c.loop-d.d-index no_entry c.loop-d-test.true c.loop-d.invariant
    (c.in_ok-fails_with.ensures c.if-branch.false)

pub returns : goal.returns
returns g c =
    let v = world g.J.Judge.judgement c.args.graph.now in
    subst (λ zs. AgreesWith v c.args.e c.args.c zs) (take_all c.loop-d.d-index c.args.others.now c.loop-d-test.false) c.loop-d.invariant
