use Rattle.std.proofs.Common.{take}
use Rattle.lint_app.specs.Told.{Adds, AreToldAs}
use Rattle.lint_app.proofs.documents.add_errors.Given as goal

-- the errors so far were told
abbrev pub invariant-loop-error : goal.invariant-loop-error
invariant-loop-error l = Adds (AreToldAs l.joined l.file (take l.error-index l.errors)) l.initial.issues.items l.issues.items
