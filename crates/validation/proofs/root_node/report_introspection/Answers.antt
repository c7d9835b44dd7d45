use Rattle.std.proofs.Common.{sym, subst}
use Rattle.std.proofs.lemmas.Result.{on_ok_weaker}
use Rattle.walk.specs.Rule.{AppendsAllowed}
use Rattle.validation.specs.RootRules.{introspection}
use Rattle.validation.proofs.Reports.{none_appended}
use Rattle.validation.proofs.root_node.report_introspection.Goals as goal

pub returns-then-disabled-clause-appended : goal.returns-then-disabled-clause-appended
returns-then-disabled-clause-appended g c =
    let document = c.args.document.now in
    let old = c.args.ctx.now in
    on_ok_weaker c.visit_introspection.result
    (λ told known. subst (λ b. AppendsAllowed (introspection b) document old c.visit_introspection.new.ctx) (sym c.if-disabled.true) (told known))
    c.visit_introspection.ensures.appended

pub returns-clause-appended : goal.returns-clause-appended
returns-clause-appended g c =
    λ known.
    let document = c.args.document.now in
    let old = c.args.ctx.now in
    subst (λ b. AppendsAllowed (introspection b) document old old) (sym c.if-disabled.false) (none_appended document old)
