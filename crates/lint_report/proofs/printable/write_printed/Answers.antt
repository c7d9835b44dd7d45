use Rattle.std.proofs.Common.{◌∙◌, ◌++◌, ap, map-id, string_bytes, sym}
use Rattle.std.proofs.lemmas.Iterator.{YieldsList-from_chars}
use Rattle.std.proofs.lemmas.Iterator.Consumers.{YieldsList-end}
use Rattle.std.specs.List.{flat_map}
use Rattle.lint_report.specs.Printable.{printed_character}
use Rattle.lint_report.proofs.printable.write_printed.Goals as goal

-- at the end, the characters so far are those of the text
pub returns : goal.returns
returns c =
    let whole = YieldsList-end (YieldsList-from_chars c.args.piece.now c.utf8.piece cc) c.loop-character.yielded _ c.loop-character.yielded_by _ _ c.in-None.is c.next.ensures.steps in
    c.loop-character.invariant ∙ ap (λ cs. string_bytes c.args.text.now ++ flat_map printed_character cs) (sym (map-id c.loop-character.yielded) ∙ whole.0)
