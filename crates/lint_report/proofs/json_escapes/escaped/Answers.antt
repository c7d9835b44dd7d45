use Rattle.std.proofs.Common.{◌∙◌, ap, chars, map-id, subst, sym}
use Rattle.std.proofs.lemmas.Iterator.{YieldsList-from_chars}
use Rattle.std.proofs.lemmas.Iterator.Consumers.{YieldsList-end}
use Rattle.std.specs.List.{flat_map}
use Rattle.lint_report.specs.Lines.{IsPrintableInLines}
use Rattle.lint_report.specs.JsonEscapes.{escaped_character}
use Rattle.lint_report.proofs.PrintableLines.{escaped_all}
use Rattle.lint_report.proofs.json_escapes.escaped.Goals as goal

-- at the end, the characters so far are those of the text
pub returns-clause-told : goal.returns-clause-told
returns-clause-told c =
    let whole = YieldsList-end (YieldsList-from_chars c.args.json.now c.utf8.json cc) c.loop-character.yielded _ c.loop-character.yielded_by _ _ c.in-None.is c.next.ensures.steps in
    c.loop-character.invariant ∙ ap (λ cs. flat_map escaped_character cs) (sym (map-id c.loop-character.yielded) ∙ whole.0)

-- so each is printable
pub returns-clause-printable : goal.returns-clause-printable
returns-clause-printable c =
    let whole = YieldsList-end (YieldsList-from_chars c.args.json.now c.utf8.json cc) c.loop-character.yielded _ c.loop-character.yielded_by _ _ c.in-None.is c.next.ensures.steps in
    subst IsPrintableInLines (sym (c.loop-character.invariant ∙ ap (λ cs. flat_map escaped_character cs) (sym (map-id c.loop-character.yielded) ∙ whole.0))) (escaped_all (chars c.args.json.now))
