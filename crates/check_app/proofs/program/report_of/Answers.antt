use Rattle.check_app.specs.declared.program.Mode.TheVariants as m
use Rattle.check_app.proofs.Reports.{by_mode}
use Rattle.check_app.proofs.program.report_of.Goals as goal

-- each mode makes its own report
pub returns-in_ok-plain-in-Plain-clause-report : goal.returns-in_ok-plain-in-Plain-clause-report
returns-in_ok-plain-in-Plain-clause-report g c = by_mode _ _ c.args.mode m.Plain c.args.schema.now c.args.document.now c.in_ok-plain-in-Plain.plain c.in-Plain.is c.in_ok-plain-in-Plain.ensures

pub returns-in_ok-merging-in-Merge-clause-report : goal.returns-in_ok-merging-in-Merge-clause-report
returns-in_ok-merging-in-Merge-clause-report g c = by_mode _ _ c.args.mode m.Merge c.args.schema.now c.args.document.now c.in_ok-merging-in-Merge.merging c.in-Merge.is c.in_ok-merging-in-Merge.ensures

pub returns-in_ok-closed-in-Closed-clause-report : goal.returns-in_ok-closed-in-Closed-clause-report
returns-in_ok-closed-in-Closed-clause-report g c = by_mode _ _ c.args.mode m.Closed c.args.schema.now c.args.document.now c.in_ok-closed-in-Closed.closed c.in-Closed.is c.in_ok-closed-in-Closed.ensures
