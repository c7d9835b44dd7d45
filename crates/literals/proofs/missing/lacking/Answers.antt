use Rattle.std.proofs.Common.{arith, ◌≡◌, [], ap, sym, ◌∙◌, map, length, Bor, List, ℕ, string_bytes}
use Rattle.std.proofs.lemmas.Grind.{common_steps}
use Rattle.std.proofs.lemmas.List.{nil_from_length}
use Rattle.std.proofs.lemmas.List.Sums.{fold_more}
use Rattle.meta.specs.Kinds.{input_fields_of}
use Rattle.literals.specs.Judged.{keys_of, printed_name}
use Rattle.literals.specs.Missing.{missing, missing_fault, noted}
use Rattle.literals.proofs.ObjectLaws.{some_text}
use Rattle.literals.proofs.missing.lacking.Goals as goal
use Rattle.literals.proofs.missing.lacking.Goals.{then-is_lacked+in_ok-push, else-is_lacked}

pub loop-field-preserved : goal.loop-field-preserved
loop-field-preserved g c =
    elim c.if-is_lacked.branch [
      | then-is_lacked+in_ok-push w ↦ grind (arith, common_steps, fold_more (noted (keys_of c.args.entries.now)) [] c.fields_of-field-items.result.now c.loop-field.field-index c.field-item.result c.loop-field-test.true)
      | else-is_lacked w ↦ grind (arith, common_steps, fold_more (noted (keys_of c.args.entries.now)) [] c.fields_of-field-items.result.now c.loop-field.field-index c.field-item.result c.loop-field-test.true)
    ]

pub returns-then-is_empty : goal.returns-then-is_empty
returns-then-is_empty g c =
    let full : map (λ (n : Bor (List ℕ)). n.now) c.loop-field.names.items ≡ missing (keys_of c.args.entries.now) c.fields_of-field-items.result.now = grind (arith, common_steps) in
    let none : length c.loop-field.names.items ≡ 0 = grind (arith, c.is_empty.ensures, c.if-is_empty.true) in
    let nil : c.loop-field.names.items ≡ [] = nil_from_length c.loop-field.names.items none in
    ap (missing_fault (printed_name c.args.meta.now)) (sym (ap (map (λ (n : Bor (List ℕ)). n.now)) nil) ∙ full ∙ ap (missing (keys_of c.args.entries.now)) c.fields_of-field-items.ensures)

pub returns : goal.returns
returns g c =
    let full : map (λ (n : Bor (List ℕ)). n.now) c.loop-field.names.items ≡ missing (keys_of c.args.entries.now) c.fields_of-field-items.result.now = grind (arith, common_steps) in
    some_text (printed_name c.args.meta.now) c.as_slice-else-is_empty.result.now (string_bytes c.in_ok-missing_fields_fault.field-0) (missing (keys_of c.args.entries.now) (input_fields_of c.args.meta.now))
    (λ e. let nil : c.loop-field.names.items ≡ [] = sym c.as_slice-else-is_empty.ensures.value ∙ e in grind (arith, common_steps, c.loop-field.names.ok.0))
    (ap (map (λ (n : Bor (List ℕ)). n.now)) c.as_slice-else-is_empty.ensures.value ∙ full ∙ ap (missing (keys_of c.args.entries.now)) c.fields_of-field-items.ensures)
    c.in_ok-missing_fields_fault.ensures
