use Rattle.std.proofs.Common.{ap, ◌∙◌, ◌++◌, [], true, false, refl}
use Rattle.std.specs.Prelude.{Some}
use Rattle.language_values.specs.ValuesLeft.{printed_left, printed_waiting, printed_next, printed_opened}
use Rattle.language_values.proofs.PrintLeft.{part_known, part_before, printed_push}
use Rattle.language_values.proofs.value.print_part.Goals as goal

pub returns-in_default : goal.returns-in_default
returns-in_default g c =
    part_before g.W.Write.write_str_gives c.args.f.now c.print_opening.new.f [] _ (printed_next g.S.ScalarValue.text g.S.ScalarValue.str_of (Some (false, c.args.others)) c.args.waiting.now.items) _
    (part_known g.W.Write.write_str_gives c.args.f.now c.print_opening.new.f _ [] _ (ap (printed_opened g.S.ScalarValue.text g.S.ScalarValue.str_of) c.in_default.is) c.in_ok-inside.ensures) refl

pub returns-in-Ok : goal.returns-in-Ok
returns-in-Ok g c =
    part_before g.W.Write.write_str_gives c.args.f.now c.print_opening.new.f (printed_left g.S.ScalarValue.text g.S.ScalarValue.str_of true c.in-Some.inside) _ (printed_next g.S.ScalarValue.text g.S.ScalarValue.str_of (Some (false, c.args.others)) c.args.waiting.now.items) _
    (part_known g.W.Write.write_str_gives c.args.f.now c.print_opening.new.f _ (printed_left g.S.ScalarValue.text g.S.ScalarValue.str_of true c.in-Some.inside) _ (ap (printed_opened g.S.ScalarValue.text g.S.ScalarValue.str_of) c.in-Some.is) c.in_ok-inside.ensures)
    (ap (λ z. printed_left g.S.ScalarValue.text g.S.ScalarValue.str_of true c.in-Some.inside ++ z) (ap (printed_waiting g.S.ScalarValue.text g.S.ScalarValue.str_of) c.in-Ok.ensures.items ∙ printed_push g.S.ScalarValue.text g.S.ScalarValue.str_of c.args.waiting.now.items c.args.others))
