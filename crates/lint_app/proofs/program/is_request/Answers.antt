use Rattle.std.proofs.Common.{inl, inr}
use Rattle.lint_app.proofs.program.is_request.Goals as goal

pub returns-in-DisplayHelp : goal.returns-in-DisplayHelp
returns-in-DisplayHelp c = λ yes. inl c.in-DisplayHelp.is

pub returns-in-DisplayVersion : goal.returns-in-DisplayVersion
returns-in-DisplayVersion c = λ yes. inr c.in-DisplayVersion.is
