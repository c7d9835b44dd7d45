use Rattle.std.proofs.Common.{IsSome, sym, ap, ◌∙◌, subst}
use Rattle.std.proofs.lemmas.Result.{IfOk-weaker}
use Rattle.merge_field_pairs.specs.Entries.{plain}
use Rattle.merge_field_pairs.specs.DirectReason.{reason_under}
use Rattle.merge_field_pairs.proofs.DirectLaws.{up_to_true, from_false, direct_up, direct_down_some, direct_flip_all, direct_alike}
use Rattle.merge_field_pairs.proofs.direct.direct_reason.Goals as goal

pub returns-clause-value : goal.returns-clause-value
returns-clause-value g c =
    IfOk-weaker c.first_reason.result _ _
    (λ r is. is ∙ ap (λ x. reason_under g.S.PartialEq.eq c.args.schema.now x (plain c.args.left.now) (plain c.args.right.now)) c.are_exclusive.ensures.value)
    c.first_reason.ensures.value

pub returns-clause-either_order : goal.returns-clause-either_order
returns-clause-either_order g c = λ p q.
    IfOk-weaker c.first_reason.result _ _
    (λ r is. is ∙ sym (direct_flip_all g.S.PartialEq.eq c.args.schema.now g.met.S.Eq.laws c.args.exclusive (plain c.args.left.now) (plain c.args.right.now) p q))
    (returns-clause-value g c)

pub returns-clause-itself : goal.returns-clause-itself
returns-clause-itself g c = λ p same.
    IfOk-weaker c.first_reason.result _ _
    (λ r is. is ∙ direct_alike g.S.PartialEq.eq c.args.schema.now g.met.S.Eq.laws c.args.exclusive (plain c.args.left.now) (plain c.args.right.now) p same)
    (returns-clause-value g c)

pub returns-clause-less_where_exclusive : goal.returns-clause-less_where_exclusive
returns-clause-less_where_exclusive g c =
    IfOk-weaker c.first_reason.result _ _
    (λ r is none. direct_up g.S.PartialEq.eq c.args.schema.now c.args.exclusive _ (plain c.args.left.now) (plain c.args.right.now) (up_to_true c.args.exclusive) (sym is ∙ none))
    (returns-clause-value g c)

pub returns-clause-more_elsewhere : goal.returns-clause-more_elsewhere
returns-clause-more_elsewhere g c =
    IfOk-weaker c.first_reason.result _ _
    (λ r is there. direct_down_some g.S.PartialEq.eq c.args.schema.now _ c.args.exclusive (plain c.args.left.now) (plain c.args.right.now) (from_false c.args.exclusive)
    (subst (λ o. IsSome o) is there))
    (returns-clause-value g c)
