use Rattle.std.proofs.Common.{[], inl, inr, refl, subst}
use Rattle.lint_args.specs.Asks.{IsRequest}
use Rattle.lint_app.proofs.Endings.{part_none}
use Rattle.lint_app.proofs.program.show.Goals as goal

-- nothing is shown
pub returns-then-not-is_asked-clause-ended : goal.returns-then-not-is_asked-clause-ended
returns-then-not-is_asked-clause-ended g c = λ early. ([], inl refl, part_none [] _)

pub returns-then-not-is_request-clause-ended : goal.returns-then-not-is_request-clause-ended
returns-then-not-is_request-clause-ended g c = λ early. ([], inl refl, part_none [] _)

-- a text was asked for
pub returns-in-Ok-clause-text : goal.returns-in-Ok-clause-text
returns-in-Ok-clause-text g c = λ least. subst IsRequest c.kind.ensures (c.is_request.ensures c.if-not-is_request.false)

pub returns-in-Err-clause-ended : goal.returns-in-Err-clause-ended
returns-in-Err-clause-ended g c = λ early. let (text, some, part) = c.write_request.ensures in (text, inr (subst IsRequest c.kind.ensures (c.is_request.ensures c.if-not-is_request.false)), part)
