use Rattle.std.proofs.Common.{IfSome, ap, subst, sym, ◌∙◌, map, slice_get, option_map, option_copied}
use Rattle.std.proofs.lemmas.Result.{IfOk-weaker}
use Rattle.merge_field_pairs.specs.Entries.{plain}
use Rattle.merge_field_pairs.specs.Numbered.{direct_between}
use Rattle.merge_field_pairs.specs.SimpleArguments.{HasSimpleArguments}
use Rattle.merge_field_pairs.proofs.NumberedLaws.{field_there}
use Rattle.merge_field_pairs.proofs.numbered.direct_reason_at.Goals as goal

pub returns-clause-value : goal.returns-clause-value
returns-clause-value g c =
    IfOk-weaker c.direct_reason_if_there.result _ _
    (λ r is. is
    ∙ ap (λ o. direct_between g.S.PartialEq.eq c.args.schema.now c.args.exclusive o (option_map plain (option_copied c.field_at-2.result))) (field_there c.args.fields.now c.args.left _ c.field_at.ensures)
    ∙ ap (direct_between g.S.PartialEq.eq c.args.schema.now c.args.exclusive (slice_get (map plain c.args.fields.now) c.args.left)) (field_there c.args.fields.now c.args.right _ c.field_at-2.ensures))
    c.direct_reason_if_there.ensures.value

pub returns-clause-succeeds : goal.returns-clause-succeeds
returns-clause-succeeds g c = λ simple.
    c.direct_reason_if_there.ensures.succeeds
    (subst (λ o. IfSome o HasSimpleArguments) (sym (field_there c.args.fields.now c.args.left _ c.field_at.ensures)) simple)
