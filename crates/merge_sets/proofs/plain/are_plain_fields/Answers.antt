use Rattle.std.proofs.Common.{subst}
use Rattle.std.specs.List.{All}
use Rattle.std.proofs.lemmas.List.{take_all}
use Rattle.std.proofs.lemmas.List.Elements.{All-more}
use Rattle.merge_sets.specs.World.{world}
use Rattle.merge_sets.specs.Plain.{IsPlainField}
use Rattle.merge_sets.proofs.OneName.{no_entry}
use Rattle.merge_sets.proofs.plain.are_plain_fields.Goals as goal

pub loop-field-preserved : goal.loop-field-preserved
loop-field-preserved g c =
    All-more (IsPlainField (world g.J.Judge.judgement c.args.graph.now)) c.args.fields.now c.loop-field.field-index no_entry c.loop-field-test.true c.loop-field.invariant c.if-not-is_plain_field.ensures

pub returns : goal.returns
returns g c =
    subst (λ zs. All (IsPlainField (world g.J.Judge.judgement c.args.graph.now)) zs) (take_all c.loop-field.field-index c.args.fields.now c.loop-field-test.false) c.loop-field.invariant
