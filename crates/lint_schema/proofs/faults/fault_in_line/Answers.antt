use Rattle.std.proofs.Common.{Some, subst}
use Rattle.std.proofs.lemmas.Result.{IfOk-weaker}
use Rattle.lint_sources.specs.Faults.{IsFault}
use Rattle.lint_sources.specs.ShownLines.{IsLineOf}
use Rattle.lint_schema.proofs.faults.fault_in_line.Goals as goal

-- the fault has the line of the place
pub returns : goal.returns
returns g c =
    let position = c.in_line.result in
    let line = c.line_of-line.result.now in
    let said = g.M.Display.output c.args.message.now in
    IfOk-weaker c.new.result _ _
    (λ f h. (
      line,
      subst (λ text. IsLineOf text c.args.place.position line) c.text_of-text.ensures c.line_of-line.ensures,
      (position, c.in_line.ensures, subst (λ path. IsFault path line (Some position) said f) c.path_of-path.ensures h),
    ))
    c.new.ensures
