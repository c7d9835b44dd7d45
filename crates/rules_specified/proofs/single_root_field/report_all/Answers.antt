use Rattle.std.proofs.Common.{◌≡◌, ◌∙◌, [], sym, subst, ap}
use Rattle.std.proofs.lemmas.Result.{IfOk-weaker}
use Rattle.std.specs.Option.{option_map}
use Rattle.rules_specified.specs.SingleRootField.{TellsEach, root_name}
use Rattle.rules_specified.proofs.Telling.{reports_none, tells_no_subscription, tells_none}
use Rattle.rules_specified.proofs.single_root_field.report_all.Goals as goal

pub returns-in_default-clause-ok : goal.returns-in_default-clause-ok
returns-in_default-clause-ok g c =
    let truth = g.S.ScalarValue.bool_of in
    let document = c.args.document.now in
    ([], tells_none truth c.args.ctx.now.schema document document (sym (ap (λ w. root_name w.schema) c.ctx.view_is) ∙ sym c.root_name.ensures ∙ ap (option_map (λ name. name.now)) c.in_default.is), reports_none c.args.ctx.now)

pub returns-then-not-has_subscription-clause-ok : goal.returns-then-not-has_subscription-clause-ok
returns-then-not-has_subscription-clause-ok g c =
    let truth = g.S.ScalarValue.bool_of in
    let document = c.args.document.now in
    ([], tells_no_subscription truth c.args.ctx.now.schema document document (sym c.has_subscription.ensures ∙ c.if-not-has_subscription.true), reports_none c.args.ctx.now)

pub returns-clause-ok : goal.returns-clause-ok
returns-clause-ok g c =
    let truth = g.S.ScalarValue.bool_of in
    let schema = c.args.ctx.now.schema in
    let document = c.args.document.now in
    IfOk-weaker c.report_each.result _ _
    (λ x (es, told, seen). (es, subst (λ z. TellsEach truth schema z document es) c.in_ok-root.ensures.document told, seen))
    c.report_each.ensures.ok
