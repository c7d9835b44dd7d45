use Rattle.std.proofs.Common.{◌≡◌, [], sym, subst, ap, ◌∙◌}
use Rattle.std.proofs.lemmas.Result.{IfOk-weaker}
use Rattle.rules_specified.specs.Collected.{Collects}
use Rattle.rules_specified.specs.SingleRootField.{root_errors}
use Rattle.rules_specified.proofs.Telling.{tells_subscription}
use Rattle.rules_specified.proofs.single_root_field.report_definition.Goals as goal

pub returns-in_ok-found-in-Subscription-clause-ok : goal.returns-in_ok-found-in-Subscription-clause-ok
returns-in_ok-found-in-Subscription-clause-ok g c =
    let truth = g.S.ScalarValue.bool_of in
    let root = c.args.root.now in
    let o = c.in-Operation.operation in
    let (fs, after, all, found) = c.in_ok-found-in-Subscription.ensures in
    let there = subst (λ set. Collects truth root.schema.now root.document.now root.name.now [] set fs after) c.as_slice-set.ensures.value all in
    let here = subst (λ schema. Collects truth schema root.document.now root.name.now [] o.item.selection_set.items fs after) c.requires.schema there in
    let told = tells_subscription truth c.args.ctx.now.schema root.document.now root.name.now c.args.definition.now o fs after c.in-Operation.is c.in-Subscription.is c.requires.name here in
    IfOk-weaker c.report_found.result _ _ (λ x all'. (root_errors o fs, told, all' fs found)) c.report_found.ensures.ok
