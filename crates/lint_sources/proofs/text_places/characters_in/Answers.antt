use Rattle.std.proofs.Common.{subst}
use Rattle.std.specs.Bool.{MatchBool}
use Rattle.std.specs.Str.{IsAscii, IsNotAscii}
use Rattle.lint_sources.proofs.ShownLines.{all_begin}
use Rattle.lint_sources.proofs.text_places.characters_in.Goals as goal

-- a text of ASCII
pub returns-then-is_ascii : goal.returns-then-is_ascii
returns-then-is_ascii c =
    all_begin c.args.text.now (subst (λ b. MatchBool b (IsAscii c.args.text.now) (IsNotAscii c.args.text.now)) c.if-is_ascii.true c.is_ascii.ensures.cases)
