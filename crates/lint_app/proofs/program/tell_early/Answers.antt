use Rattle.std.proofs.Common.{length}
use Rattle.lint_app.proofs.Endings.{ends_early, ends_silent, some_items}
use Rattle.lint_app.proofs.program.tell_early.Goals as goal

pub returns-then-is_empty-clause-ended : goal.returns-then-is_empty-clause-ended
returns-then-is_empty-clause-ended g c = ends_silent c.args.form c.args.faults.now _

pub returns-in-Ok-clause-ended : goal.returns-in-Ok-clause-ended
returns-in-Ok-clause-ended g c = ends_early c.args.form c.args.faults.now _ _ (some_items (length c.args.faults.now) c.is_empty.result c.is_empty.ensures c.if-is_empty.false) c.write_faults.ensures

pub returns-in-Err-clause-ended : goal.returns-in-Err-clause-ended
returns-in-Err-clause-ended g c = ends_early c.args.form c.args.faults.now _ _ (some_items (length c.args.faults.now) c.is_empty.result c.is_empty.ensures c.if-is_empty.false) c.write_faults.ensures
