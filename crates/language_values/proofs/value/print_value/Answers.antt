use Rattle.std.proofs.Common.{ap, true}
use Rattle.language_values.specs.ValuesLeft.{printed_left, printed_opened}
use Rattle.language_values.proofs.PrintLeft.{part_known, part_end}
use Rattle.language_values.proofs.value.print_value.Goals as goal

pub returns-in-Some : goal.returns-in-Some
returns-in-Some g c =
    λ p ok.
    part_end g.W.Write.write_str_gives c.args.f.now c.print_opening.new.f c.print_inside.new.f _ _
    (part_known g.W.Write.write_str_gives c.args.f.now c.print_opening.new.f _ (printed_left g.S.ScalarValue.text g.S.ScalarValue.str_of true c.in-Some.inside) _ (ap (printed_opened g.S.ScalarValue.text g.S.ScalarValue.str_of) c.in-Some.is) c.in_ok-alloc.ensures)
    (λ q. c.print_inside.ensures q ok) p
