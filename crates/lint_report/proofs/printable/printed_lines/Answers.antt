use Rattle.std.proofs.Common.{◌∙◌, ap, chars, map-id, subst, sym}
use Rattle.std.proofs.lemmas.Iterator.{YieldsList-from_chars}
use Rattle.std.proofs.lemmas.Iterator.Consumers.{YieldsList-end}
use Rattle.std.specs.List.{flat_map}
use Rattle.lint_report.specs.Lines.{IsPrintableInLines}
use Rattle.lint_report.specs.Printable.{printed_in_lines}
use Rattle.lint_report.proofs.PrintableLines.{printed_in_lines_all}
use Rattle.lint_report.proofs.printable.printed_lines.Goals as goal

-- at the end, the characters so far are those of the text
pub returns-clause-told : goal.returns-clause-told
returns-clause-told c =
    let whole = YieldsList-end (YieldsList-from_chars c.args.lines.now c.utf8.lines cc) c.loop-character.yielded _ c.loop-character.yielded_by _ _ c.in-None.is c.next.ensures.steps in
    c.loop-character.invariant ∙ ap (λ cs. flat_map printed_in_lines cs) (sym (map-id c.loop-character.yielded) ∙ whole.0)

-- so each is printable
pub returns-clause-printable : goal.returns-clause-printable
returns-clause-printable c =
    let whole = YieldsList-end (YieldsList-from_chars c.args.lines.now c.utf8.lines cc) c.loop-character.yielded _ c.loop-character.yielded_by _ _ c.in-None.is c.next.ensures.steps in
    subst IsPrintableInLines (sym (c.loop-character.invariant ∙ ap (λ cs. flat_map printed_in_lines cs) (sym (map-id c.loop-character.yielded) ∙ whole.0))) (printed_in_lines_all (chars c.args.lines.now))
