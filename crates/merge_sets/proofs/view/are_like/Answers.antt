use Rattle.std.proofs.Common.{subst}
use Rattle.std.specs.List.{All}
use Rattle.std.proofs.lemmas.List.{take_all}
use Rattle.std.proofs.lemmas.List.Elements.{All-more}
use Rattle.merge_sets.specs.declared.node.Entry.{Entry}
use Rattle.merge_sets.proofs.OneName.{no_entry}
use Rattle.merge_sets.proofs.view.are_like.Goals as goal

pub loop-other-preserved : goal.loop-other-preserved
loop-other-preserved g c =
    All-more (λ (a : Entry). g.J.Judge.are_alike c.args.graph.now.judge c.args.one a.field) c.args.others.now c.loop-other.other-index no_entry c.loop-other-test.true c.loop-other.invariant c.if-not-is_plainly_like.ensures

pub returns-clause-like : goal.returns-clause-like
returns-clause-like g c =
    subst (λ zs. All (λ a. g.J.Judge.are_alike c.args.graph.now.judge c.args.one a.field) zs) (take_all c.loop-other.other-index c.args.others.now c.loop-other-test.false) c.loop-other.invariant
