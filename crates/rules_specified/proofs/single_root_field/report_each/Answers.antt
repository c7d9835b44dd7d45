use Rattle.std.proofs.Common.{◌≡◌, ◌++◌, sym, subst, ap}
use Rattle.rules_specified.specs.SingleRootField.{Tells}
use Rattle.rules_specified.proofs.Telling.{goes_on, goes_to_end, reports_more}
use Rattle.rules_specified.proofs.single_root_field.report_each.Goals as goal

pub loop-definition-preserved : goal.loop-definition-preserved
loop-definition-preserved g c =
    let truth = g.S.ScalarValue.bool_of in
    let document = c.args.root.now.document.now in
    let schema = c.args.ctx.now.schema in
    let i = c.loop-definition.definition-index in
    let d = c.definition-item.result in
    let (es, seen, goes) = c.loop-definition.invariant in
    let (fs, tells, more) = c.in_ok-report_definition.ensures.ok in
    let here = subst (λ z. Tells truth z document d fs) (ap (λ w. w.schema) seen) tells in (
      es ++ fs,
      reports_more es fs c.args.ctx.now c.loop-definition.ctx c.report_definition.new.ctx seen more,
      goes_on truth schema document c.args.definitions.now i d es fs c.loop-definition-test.true (sym c.definition-item.is) here goes,
    )

pub returns-clause-ok : goal.returns-clause-ok
returns-clause-ok g c =
    let truth = g.S.ScalarValue.bool_of in
    let (es, seen, goes) = c.loop-definition.invariant in
    (es, goes_to_end truth c.args.ctx.now.schema c.args.root.now.document.now c.args.definitions.now c.loop-definition.definition-index es c.loop-definition-test.false goes, seen)
