use Rattle.std.specs.Prelude.{Some, true}
use Rattle.language_values.specs.ValuesLeft.{WritesPart, printed_left, printed_next}
use Rattle.language_values.proofs.value.print_inside.Given as goal

-- what is written, and what is left, are what there was to print
abbrev pub invariant-loop : goal.invariant-loop
invariant-loop g l =
    WritesPart g.W.Write.write_str_gives l.fn.f l.f (printed_next g.S.ScalarValue.text g.S.ScalarValue.str_of (Some (l.is_first, l.rest)) l.waiting.items) (printed_left g.S.ScalarValue.text g.S.ScalarValue.str_of true l.inside)
