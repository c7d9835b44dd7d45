use Rattle.std.proofs.Common.{ap, sym, ◌∙◌, ◌++◌, false, refl, codes}
use Rattle.language_values.specs.declared.value.Rest.TheVariants.{Items, Entries}
use Rattle.language_values.specs.ValuesLeft.{printed_left, printed_waiting, printed_next}
use Rattle.language_values.specs.ValuesPrinted.{printed_value, separator_before}
use Rattle.language_values.proofs.PrintLeft.{part_one, part_two, part_if_ok, next_item, next_entry}
use Rattle.language_values.proofs.value.print_next.Goals as goal

pub returns-in_ok-print_separator-in-Items : goal.returns-in_ok-print_separator-in-Items
returns-in_ok-print_separator-in-Items g c =
    let waits = printed_waiting g.S.ScalarValue.text g.S.ScalarValue.str_of c.args.waiting.now.items in
    let whole = next_item g.S.ScalarValue.text g.S.ScalarValue.str_of c.args.is_first c.in-Items.items c.in-Some.others c.in-Some.first.now waits c.in-Some.ensures.cases.0 ∙ sym (ap (λ r. printed_left g.S.ScalarValue.text g.S.ScalarValue.str_of c.args.is_first r ++ waits) c.in-Items.is) in
    part_if_ok g.W.Write.write_str_gives c.print_part.result c.args.f.now c.print_separator.new.f c.print_part.new.f (λ o. printed_next g.S.ScalarValue.text g.S.ScalarValue.str_of o c.print_part.new.waiting.items) (printed_value g.S.ScalarValue.text g.S.ScalarValue.str_of c.in-Some.first.now.item ++ (printed_left g.S.ScalarValue.text g.S.ScalarValue.str_of false (Items c.in-Some.others) ++ waits)) (printed_left g.S.ScalarValue.text g.S.ScalarValue.str_of c.args.is_first c.args.rest ++ waits)
    (part_one g.W.Write.write_str_gives c.args.f.now c.print_separator.new.f (separator_before c.args.is_first) _ _ (λ p. c.in_ok-print_separator-in-Items.ensures p refl) whole)
    c.print_part.ensures

pub returns-in_ok-print_key-in-Entries : goal.returns-in_ok-print_key-in-Entries
returns-in_ok-print_key-in-Entries g c =
    let waits = printed_waiting g.S.ScalarValue.text g.S.ScalarValue.str_of c.args.waiting.now.items in
    let rest = printed_left g.S.ScalarValue.text g.S.ScalarValue.str_of false (Entries c.in-Some-split_first.others) ++ waits in
    let whole =
    next_entry g.S.ScalarValue.text g.S.ScalarValue.str_of c.args.is_first c.in-Entries.entries c.in-Some-split_first.others c.in-Some-split_first.field-0-0.now c.as_str.result.now waits c.in-Some-split_first.ensures.cases.0 c.as_str.ensures.value
    ∙ sym (ap (λ r. printed_left g.S.ScalarValue.text g.S.ScalarValue.str_of c.args.is_first r ++ waits) c.in-Entries.is) in
    part_if_ok g.W.Write.write_str_gives c.print_part-in-Entries.result c.args.f.now c.print_key.new.f c.print_part-in-Entries.new.f (λ o. printed_next g.S.ScalarValue.text g.S.ScalarValue.str_of o c.print_part-in-Entries.new.waiting.items) (printed_value g.S.ScalarValue.text g.S.ScalarValue.str_of c.in-Some-split_first.field-0-0.now.1.item ++ rest) (printed_left g.S.ScalarValue.text g.S.ScalarValue.str_of c.args.is_first c.args.rest ++ waits)
    (part_two g.W.Write.write_str_gives c.args.f.now c.print_separator-in-Entries.new.f c.print_key.new.f (separator_before c.args.is_first) (c.as_str.result.now ++ codes ": ") _ _ (λ p. c.in_ok-print_separator-in-Entries.ensures p refl) (λ p. c.in_ok-print_key-in-Entries.ensures p refl) whole)
    c.print_part-in-Entries.ensures
