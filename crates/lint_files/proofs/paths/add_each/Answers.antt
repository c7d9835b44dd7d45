use Rattle.std.proofs.Common.{subst}
use Rattle.std.proofs.lemmas.List.{take_all}
use Rattle.lint_files.specs.Paths.{AddsEach}
use Rattle.lint_files.proofs.Reading.{path_more}
use Rattle.lint_files.proofs.paths.add_each.Goals as goal

-- one more path
pub loop-path-preserved : goal.loop-path-preserved
loop-path-preserved c =
    path_more c.args.more.now c.loop-path.path-index c.path-item.result c.as_str.result.now _ c.loop-path.paths.items _ c.loop-path-test.true c.path-item.is c.as_str.ensures.value c.in_ok-add_once.ensures c.loop-path.invariant

-- all paths
pub returns : goal.returns
returns c =
    subst (λ more. AddsEach more c.args.paths.now.items c.loop-path.paths.items) (take_all c.loop-path.path-index c.args.more.now c.loop-path-test.false) c.loop-path.invariant
