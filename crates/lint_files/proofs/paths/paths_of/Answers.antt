use Rattle.std.proofs.Common.{drop_of_length-le, subst}
use Rattle.lint_files.specs.Paths.{AddsEach, StandsFor}
use Rattle.lint_files.proofs.Reading.{stood_more}
use Rattle.variable_values.proofs.InTurns.{done_all}
use Rattle.lint_files.proofs.paths.paths_of.Goals as goal

-- one more argument
pub loop-argument-preserved : goal.loop-argument-preserved
loop-argument-preserved g c =
    let added = subst (λ more. AddsEach more c.loop-argument.paths.items c.add_each.new.paths.items) c.as_slice.ensures.value c.in_ok-add_each.ensures in
    stood_more (g.I.Inputs.host c.args.inputs.now) c.args.arguments.now c.loop-argument.argument-index _ c.loop-argument.paths.items c.in_ok-stood.stood.items c.add_each.new.paths.items c.loop-argument-test.true c.in_ok-stood.ensures added c.loop-argument.invariant

-- all arguments
pub returns : goal.returns
returns g c =
    let (all, done, known) = c.loop-argument.invariant in (
      all,
      done_all (λ index argument. StandsFor (g.I.Inputs.host c.args.inputs.now) argument.now) c.args.arguments.now c.loop-argument.argument-index all (drop_of_length-le c.args.arguments.now c.loop-argument-test.false) done,
      known,
    )
