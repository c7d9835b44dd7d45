use Rattle.std.proofs.Common.{◌∙◌, ap}
use Rattle.std.proofs.lemmas.List.{take_all}
use Rattle.clap.specs.Walk.{texts}
use Rattle.lint_args.specs.Asks.{distinct}
use Rattle.lint_args.proofs.Distinct.{distinct_more}
use Rattle.lint_args.proofs.task.distinct.Goals as goal

-- one path more
pub loop-path-preserved : goal.loop-path-preserved
loop-path-preserved c = distinct_more c.args.paths.now c.loop-path.path-index _ _ _ c.loop-path-test.true c.loop-path.invariant c.in_ok-add_once.ensures

-- all paths
pub returns : goal.returns
returns c = c.loop-path.invariant ∙ ap (λ l. distinct (texts l)) (take_all c.loop-path.path-index c.args.paths.now c.loop-path-test.false)
