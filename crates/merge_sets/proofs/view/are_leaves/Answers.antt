use Rattle.std.proofs.Common.{◌≡◌, None, subst, sym}
use Rattle.std.proofs.lemmas.List.{take_all}
use Rattle.std.proofs.lemmas.List.Elements.{All-more}
use Rattle.merge_sets.specs.declared.node.Entry.{Entry}
use Rattle.merge_sets.specs.Clear.{AreLeaves}
use Rattle.merge_sets.proofs.Laws.{is_leaf}
use Rattle.merge_sets.proofs.OneName.{no_entry}
use Rattle.merge_sets.proofs.view.are_leaves.Goals as goal

pub loop-field-preserved : goal.loop-field-preserved
loop-field-preserved c =
    All-more (λ (a : Entry). a.below ≡ None) c.args.fields.now c.loop-field.field-index no_entry c.loop-field-test.true c.loop-field.invariant (is_leaf _ (sym c.if-is_some.ensures))

pub returns : goal.returns
returns c = subst (λ zs. AreLeaves zs) (take_all c.loop-field.field-index c.args.fields.now c.loop-field-test.false) c.loop-field.invariant
