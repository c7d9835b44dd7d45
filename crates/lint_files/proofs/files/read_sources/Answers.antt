use Rattle.std.proofs.Common.{drop_of_length-le}
use Rattle.lint_files.specs.Read.{IsReadOf}
use Rattle.lint_files.proofs.Reading.{paths_more}
use Rattle.variable_values.proofs.InTurns.{done_all}
use Rattle.lint_files.proofs.files.read_sources.Goals as goal

-- one more path
pub loop-path-preserved : goal.loop-path-preserved
loop-path-preserved g c =
    paths_more (g.I.Inputs.host c.args.inputs.now) c.args.paths.now c.loop-path.path-index c.path-item.result c.as_str.result.now c.loop-path.sources.items c.add_read.new.sources.items c.in_ok-read.read c.loop-path-test.true c.path-item.is c.as_str.ensures.value c.in_ok-read.ensures c.in_ok-add_read.ensures c.loop-path.invariant

-- all paths
pub returns : goal.returns
returns g c =
    done_all (IsReadOf (g.I.Inputs.host c.args.inputs.now)) c.args.paths.now c.loop-path.path-index c.loop-path.sources.items (drop_of_length-le c.args.paths.now c.loop-path-test.false) c.loop-path.invariant
