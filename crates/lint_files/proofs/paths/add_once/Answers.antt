use Rattle.lint_files.proofs.Reading.{known_once, new_once}
use Rattle.lint_files.proofs.paths.add_once.Goals as goal

-- the path is there
pub returns-then-is_among : goal.returns-then-is_among
returns-then-is_among c = known_once c.args.path.now c.args.paths.now.items c.as_slice.result.now c.is_among.result c.as_slice.ensures.value c.is_among.ensures c.if-is_among.true

-- it is new
pub returns : goal.returns
returns c = new_once c.args.path.now c.in_ok-added.added c.args.paths.now.items c.as_slice.result.now _ c.is_among.result c.as_slice.ensures.value c.is_among.ensures c.if-is_among.false c.in_ok-added.ensures.ok c.in_ok-push.ensures.items
