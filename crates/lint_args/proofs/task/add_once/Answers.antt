use Rattle.lint_args.proofs.Distinct.{added_known, added_new}
use Rattle.lint_args.proofs.task.add_once.Goals as goal

-- the path is there
pub returns-then-is_among : goal.returns-then-is_among
returns-then-is_among c = added_known c.args.path.now c.args.files.now.items c.as_slice.result.now c.is_among.result c.as_slice.ensures.value c.is_among.ensures c.if-is_among.true

-- it is not
pub returns : goal.returns
returns c = added_new c.args.path c.args.files.now.items c.as_slice.result.now _ c.is_among.result c.as_slice.ensures.value c.is_among.ensures c.if-is_among.false c.in_ok-push.ensures.items
