use Rattle.std.proofs.Common.{ap, ◌∙◌, ◌++◌, [], true, append-nil}
use Rattle.language_values.specs.ValuesLeft.{printed_left, printed_waiting, printed_next}
use Rattle.language_values.proofs.PrintLeft.{part_start, part_then, part_known, part_all}
use Rattle.language_values.proofs.value.print_inside.Goals as goal

pub loop-init : goal.loop-init
loop-init g c =
    part_start g.W.Write.write_str_gives c.args.f.now _ _ (ap (λ z. printed_left g.S.ScalarValue.text g.S.ScalarValue.str_of true c.args.inside ++ printed_waiting g.S.ScalarValue.text g.S.ScalarValue.str_of z) c.new-waiting.ensures.items ∙ append-nil (printed_left g.S.ScalarValue.text g.S.ScalarValue.str_of true c.args.inside))

pub loop-preserved : goal.loop-preserved
loop-preserved g c =
    let next = ap (λ o. printed_next g.S.ScalarValue.text g.S.ScalarValue.str_of o c.print_next.new.waiting.items) c.in-Some.is in
    part_then g.W.Write.write_str_gives c.args.f.now c.loop.f c.print_next.new.f _ _ _ c.loop.invariant (part_known g.W.Write.write_str_gives c.loop.f c.print_next.new.f _ _ _ next c.in_ok-first.ensures)

pub returns-in_default : goal.returns-in_default
returns-in_default g c =
    λ p ok.
    let next = ap (λ o. printed_next g.S.ScalarValue.text g.S.ScalarValue.str_of o c.print_next.new.waiting.items) c.in_default.is in
    part_all g.W.Write.write_str_gives c.args.f.now c.print_next.new.f _ (part_then g.W.Write.write_str_gives c.args.f.now c.loop.f c.print_next.new.f _ [] _ c.loop.invariant (part_known g.W.Write.write_str_gives c.loop.f c.print_next.new.f _ [] _ next c.in_ok-first.ensures)) p
