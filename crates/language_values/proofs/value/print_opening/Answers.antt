use Rattle.std.proofs.Common.{refl, [], codes}
use Rattle.language_values.proofs.PrintLeft.{part_one, part_two, variable_alone, list_opened, object_opened}
use Rattle.language_values.proofs.value.print_opening.Goals as goal

pub returns-in_ok-write_str-in-Variable-2 : goal.returns-in_ok-write_str-in-Variable-2
returns-in_ok-write_str-in-Variable-2 g c =
    part_two g.W.Write.write_str_gives c.args.f.now c.write_str-in-Variable.new.self c.write_str-in-Variable-2.new.self (codes "$") c.as_str-in-Variable.result.now [] _ (λ p. c.in_ok-write_str-in-Variable.ensures.writes p refl) (λ p. c.in_ok-write_str-in-Variable-2.ensures.writes p refl)
    (variable_alone g.S.ScalarValue.text g.S.ScalarValue.str_of c.args.value.now c.in-Variable.name c.as_str-in-Variable.result.now c.in-Variable.is c.as_str-in-Variable.ensures.value)

pub returns-in_ok-write_str-in-List : goal.returns-in_ok-write_str-in-List
returns-in_ok-write_str-in-List g c =
    part_one g.W.Write.write_str_gives c.args.f.now c.write_str-in-List.new.self (codes "[") _ _ (λ p. c.in_ok-write_str-in-List.ensures.writes p refl)
    (list_opened g.S.ScalarValue.text g.S.ScalarValue.str_of c.args.value.now c.in-List.items c.as_slice.result c.in-List.is c.as_slice.ensures.value)

pub returns-in_ok-write_str-in-Object : goal.returns-in_ok-write_str-in-Object
returns-in_ok-write_str-in-Object g c =
    part_one g.W.Write.write_str_gives c.args.f.now c.write_str-in-Object.new.self (codes "{") _ _ (λ p. c.in_ok-write_str-in-Object.ensures.writes p refl)
    (object_opened g.S.ScalarValue.text g.S.ScalarValue.str_of c.args.value.now c.in-Object.entries c.as_slice-in-Object.result c.in-Object.is c.as_slice-in-Object.ensures.value)
