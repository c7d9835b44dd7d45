use Rattle.std.proofs.Common.{sym, ap, ◌∙◌}
use Rattle.std.proofs.lemmas.Result.{IfOk-weaker, on_ok_weaker}
use Rattle.walk.specs.ContextState.{scope_of, typing}
use Rattle.validation.proofs.Reports.{only_more}
use Rattle.validation.proofs.Stages.{after_one, after_two, few_pairs, valid_iff}
use Rattle.validation.proofs.rules.visit_all_rules.Goals as goal

pub returns-then-has_errors-clause-appended : goal.returns-then-has_errors-clause-appended
returns-then-has_errors-clause-appended g c =
    λ known.
    after_one _ c.args.ctx.now c.visit_stage_one.new.ctx c.args.document.now
    (c.in_ok-cycles.ensures.appended known) (sym c.has_errors.ensures ∙ c.if-has_errors.true)

pub returns-clause-appended : goal.returns-clause-appended
returns-clause-appended g c =
    IfOk-weaker c.visit_stage_two.result _ _
    (λ pairs two known.
    after_two _ c.args.ctx.now c.visit_stage_one.new.ctx c.visit_stage_two.new.ctx c.args.document.now c.clean_documents.ensures
    (c.in_ok-cycles.ensures.appended known) (sym c.has_errors.ensures ∙ c.if-has_errors.false) pairs
    (two (ap (λ w. w.known) c.in_ok-cycles.ensures.only.2 ∙ known)))
    c.visit_stage_two.ensures.appended

pub returns-clause-valid : goal.returns-clause-valid
returns-clause-valid g c =
    IfOk-weaker c.visit_stage_two.result _ _
    (λ pairs told known.
    valid_iff _ c.args.ctx.now c.visit_stage_two.new.ctx c.args.document.now pairs (told known) c.clean_documents.ensures)
    (returns-clause-appended g c)

pub returns-clause-few : goal.returns-clause-few
returns-clause-few g c =
    IfOk-weaker c.visit_stage_two.result _ _
    (λ pairs told known.
    let old = c.args.ctx.now in
    let document = c.args.document.now in
    few_pairs _ old.errors (scope_of old.schema document) (typing old) document (told known).0 pairs (told known).1)
    (returns-clause-appended g c)

pub returns-clause-only : goal.returns-clause-only
returns-clause-only g c =
    on_ok_weaker c.visit_stage_two.result (λ two. only_more c.args.ctx.now c.visit_stage_one.new.ctx c.visit_stage_two.new.ctx c.in_ok-cycles.ensures.only two) c.visit_stage_two.ensures.only
