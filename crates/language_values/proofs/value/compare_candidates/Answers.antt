use Rattle.std.proofs.Common.{◌≡◌, ◌∙◌, ◌&&◌, ◌||◌, sym, ap, true, false, nat_eq, string_bytes}
use Rattle.std.specs.List.{list_any}
use Rattle.std.specs.Cmp.Lexicographic.{pointwise}
use Rattle.language_values.specs.declared.value.Comparison.TheVariants as c
use Rattle.language_values.specs.declared.value.Pending.TheVariants as p
use Rattle.language_values.specs.EqualSteps.{answer_after}
use Rattle.language_values.specs.ValuesEqual.{unlocated_eq}
use Rattle.language_values.proofs.AnswerAfter.{answer_after-push}
use Rattle.language_values.proofs.ValueLemmas.{is_entry}
use Rattle.language_values.proofs.value.compare_candidates.Goals as goal

pub returns-then-eq : goal.returns-then-eq
returns-then-eq g k =
    let E = g.S.PartialEq.eq in
    let key = k.args.key.now in
    let here = unlocated_eq E k.args.value.now k.in-Some.field-0-0.now.1.item in
    let key_is : pointwise nat_eq (string_bytes k.in-Some.field-0-0.now.0.item) key ≡ true =
    ap (λ t. pointwise nat_eq t key) (sym k.as_str.ensures.value) ∙ sym k.eq.ensures ∙ k.if-eq.true in
    answer_after-push E k.args.waiting.now.items k.push.new.self.items (p.Or (c.Candidates k.args.key k.args.value k.in-Some.others)) here
    k.in_ok-push.ensures.items
    ∙ ap (answer_after E k.args.waiting.now.items)
    (sym (ap (list_any (is_entry E key k.args.value.now)) k.in-Some.ensures.cases.0
    ∙ ap (λ b. (b && here) || list_any (is_entry E key k.args.value.now) k.in-Some.others.now) key_is))

pub returns : goal.returns
returns g k =
    let E = g.S.PartialEq.eq in
    let key = k.args.key.now in
    let here = unlocated_eq E k.args.value.now k.in-Some.field-0-0.now.1.item in
    let key_is : pointwise nat_eq (string_bytes k.in-Some.field-0-0.now.0.item) key ≡ false =
    ap (λ t. pointwise nat_eq t key) (sym k.as_str.ensures.value) ∙ sym k.eq.ensures ∙ k.if-eq.false in
    ap (answer_after E k.args.waiting.now.items)
    (sym (ap (list_any (is_entry E key k.args.value.now)) k.in-Some.ensures.cases.0
    ∙ ap (λ b. (b && here) || list_any (is_entry E key k.args.value.now) k.in-Some.others.now) key_is))
