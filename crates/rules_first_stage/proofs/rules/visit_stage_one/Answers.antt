use Rattle.std.proofs.Common.{rules, IsErr}
use Rattle.std.proofs.lemmas.Result.{IfOk-from_err}
use Rattle.events.specs.TypedEvent.{typed_events}
use Rattle.walk.specs.ContextState.{typing, scope_of_context}
use Rattle.rules_first_stage.proofs.Kept.{cycles_of, is_searched, is_there, kept_after}
use Rattle.rules_first_stage.proofs.rules.visit_stage_one.Goals as goal

pub unreachable-requires : goal.unreachable-requires
unreachable-requires g c =
    let (es, r, e) = c.in_ok-visit_settled.ensures.ran in
    let old = c.args.ctx.now in
    let events = typed_events old.schema (typing old) c.args.document.now in
    let others = c.pair_runs.ensures (scope_of_context old) events c.with_rule-rules.result c.visit_settled.new.rules es r in
    let across = c.pair_runs-2.ensures (scope_of_context old) events c.with_rule-rules.result.1 c.visit_settled.new.rules.1 others.by_other others.other_runs in
    let kept = kept_after (scope_of_context old) old.schema (typing old) c.args.document.now c.with_rule-rules.result.1.0 c.visit_settled.new.rules.1.0 across.by_newer across.newer_runs in
    is_there cycles_of c.args.document.now c.visit_settled.new.rules kept _ c.into_parts-others.ensures _ c.into_parts-across.ensures _ c.into_found.ensures c.in-None.is

pub returns-clause-searched : goal.returns-clause-searched
returns-clause-searched g c =
    let (es, r, e) = c.in_ok-visit_settled.ensures.ran in
    let old = c.args.ctx.now in
    let events = typed_events old.schema (typing old) c.args.document.now in
    let others = c.pair_runs.ensures (scope_of_context old) events c.with_rule-rules.result c.visit_settled.new.rules es r in
    let across = c.pair_runs-2.ensures (scope_of_context old) events c.with_rule-rules.result.1 c.visit_settled.new.rules.1 others.by_other others.other_runs in
    let kept = kept_after (scope_of_context old) old.schema (typing old) c.args.document.now c.with_rule-rules.result.1.0 c.visit_settled.new.rules.1.0 across.by_newer across.newer_runs in
    is_searched cycles_of c.args.document.now c.visit_settled.new.rules kept _ c.into_parts-others.ensures _ c.into_parts-across.ensures _ c.into_found.ensures c.in-Some.cycles c.in-Some.is

pub returns-in_err-visit_settled-clause-appended : goal.returns-in_err-visit_settled-clause-appended
returns-in_err-visit_settled-clause-appended g c =
    let e : IsErr c.from_residual.result = search rules in IfOk-from_err c.from_residual.result _ e

pub returns-clause-appended : goal.returns-clause-appended
returns-clause-appended g c = λ known. let (es, allowed, e) = c.in_ok-visit_settled.ensures.appended known in (es, ((c.visit_settled.new.rules, allowed.0), allowed.1), e)
