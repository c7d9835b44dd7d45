use Rattle.std.proofs.Common.{ap, length, subst, sym}
use Rattle.lint_files.specs.Paths.{ArePathsOf}
use Rattle.lint_app.specs.Tasks.{IsToldOf}
use Rattle.lint_files.specs.Read.{AreReadOf}
use Rattle.lint_app.proofs.program.judge_queries.Goals as goal

-- the files were read, and a report on them is told
pub returns : goal.returns
returns g c =
    let host = g.I.Inputs.host c.args.inputs.now in
    let paths = c.in_ok-paths.paths.items in
    let read = subst (λ names. AreReadOf host names c.in_ok-read.read.items) c.as_slice-named.ensures.value c.in_ok-read.ensures in
    let coloured = subst (λ colours. IsToldOf colours.output c.args.task.now (length c.as_slice-named.result.now) c.as_slice-faults.result.now c.as_slice-sources.result.now c.in_ok-report.report c.in_ok-told.told) c.colours-colours.ensures c.in_ok-told.ensures in
    record {
      paths = paths;
      are_paths = subst (λ arguments. ArePathsOf host arguments paths) c.as_slice-queries.ensures.value c.in_ok-paths.ensures;
      sources = c.as_slice-sources.result.now;
      read = subst (AreReadOf host paths) (sym c.as_slice-sources.ensures.value) read;
      report = c.in_ok-report.report;
      reported = c.in_ok-report.ensures;
      faults = c.as_slice-faults.result.now;
      is_told = subst (λ files. IsToldOf host.colours.output c.args.task.now files c.as_slice-faults.result.now c.as_slice-sources.result.now c.in_ok-report.report c.in_ok-told.told) (ap length c.as_slice-named.ensures.value) coloured;
    }
