use Rattle.std.proofs.Common.{subst}
use Rattle.std.specs.List.{All}
use Rattle.std.proofs.lemmas.List.{take_all}
use Rattle.std.proofs.lemmas.List.Elements.{All-more}
use Rattle.merge_sets.specs.declared.node.Entry.{Entry}
use Rattle.merge_sets.proofs.OneName.{no_entry}
use Rattle.merge_decision.proofs.settling.are_like.Goals as goal

pub loop-field-preserved : goal.loop-field-preserved
loop-field-preserved g c =
    All-more (λ (a : Entry). g.J.Judge.are_alike c.args.graph.now.judge c.args.one a.field) c.args.fields.now c.loop-field.field-index no_entry c.loop-field-test.true c.loop-field.invariant c.if-not-is_plainly_like.ensures

pub returns-clause-like : goal.returns-clause-like
returns-clause-like g c =
    subst (λ zs. All (λ a. g.J.Judge.are_alike c.args.graph.now.judge c.args.one a.field) zs) (take_all c.loop-field.field-index c.args.fields.now c.loop-field-test.false) c.loop-field.invariant
