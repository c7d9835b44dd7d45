use Rattle.std.proofs.Common.{◌≡◌, ◌++◌, arith, string_bytes, subst}
use Rattle.std.specs.Str.{chars}
use Rattle.lint_report.proofs.Columns.{window_added}
use Rattle.lint_report.proofs.windows.write_window.Goals as goal

-- the shown part of the line and the mark were written one after the other
pub returns : goal.returns
returns c =
    let shown = c.last_within-left.ensures in
    let marked = subst (λ mark. string_bytes c.push_str-2.new.self ≡ string_bytes c.write_blanks.new.text ++ mark) c.mark.ensures c.in_ok-push_str-2.ensures.bytes in
    window_added c.args.is_coloured (chars c.args.before.now) (chars c.args.rest.now) c.last_within-left.result.0.now c.first_within.result.now _ (string_bytes c.args.text.now) _ _ _ _ _
    shown.shown shown.utf8 (omega (arith, shown.left, shown.within)) c.first_within.ensures.shown c.first_within.ensures.utf8
    c.in_ok-write_printed.ensures c.in_ok-write_printed-2.ensures c.in_ok-push_str.ensures.bytes c.in_ok-write_blanks.ensures marked
