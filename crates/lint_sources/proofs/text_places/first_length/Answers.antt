use Rattle.std.proofs.Common.{subst}
use Rattle.memchr.specs.Find.{IsFirstByte, is_byte2}
use Rattle.lint_sources.proofs.ShownLines.{end_found, no_end}
use Rattle.lint_sources.proofs.text_places.first_length.Goals as goal

-- a byte ends the line
pub returns-in-Some : goal.returns-in-Some
returns-in-Some c =
    let first = subst (λ bytes. IsFirstByte (is_byte2 10 13) bytes c.memchr2.result) c.as_bytes.ensures.value c.memchr2.ensures in
    end_found c.args.text.now c.in-Some.length (subst (IsFirstByte (is_byte2 10 13) c.args.text.now) c.in-Some.is first)

-- the text is the line
pub returns-in-None : goal.returns-in-None
returns-in-None c =
    let first = subst (λ bytes. IsFirstByte (is_byte2 10 13) bytes c.memchr2.result) c.as_bytes.ensures.value c.memchr2.ensures in
    no_end c.args.text.now (subst (IsFirstByte (is_byte2 10 13) c.args.text.now) c.in-None.is first)
