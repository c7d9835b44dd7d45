use Rattle.std.proofs.Common.{◌∙◌, ◌&&◌, sym, ap}
use Rattle.std.specs.List.{list_all}
use Rattle.std.proofs.lemmas.List.{nil_from_length}
use Rattle.language_values.specs.declared.value.Comparison.TheVariants as c
use Rattle.language_values.specs.declared.value.Pending.TheVariants as p
use Rattle.language_values.specs.EqualSteps.{answer_after}
use Rattle.language_values.specs.ValuesEqual.{unlocated_eq, entry_in}
use Rattle.language_values.proofs.AnswerAfter.{answer_after-push}
use Rattle.language_values.proofs.ValueLemmas.{is_found}
use Rattle.language_values.proofs.value.compare_entries.Goals as goal

pub returns : goal.returns
returns g k =
    let E = g.S.PartialEq.eq in
    let others = list_all (is_found E k.args.right.now) k.in-Some.others.now in
    answer_after-push E k.args.waiting.now.items k.push.new.self.items (p.And (c.Entries k.in-Some.others k.args.right)) _
    k.in_ok-push.ensures.items
    ∙ ap (answer_after E k.args.waiting.now.items)
    (ap (λ key. entry_in (unlocated_eq E k.in-Some.field-0-0.now.1.item) key k.args.right.now && others) k.as_str.ensures.value
    ∙ sym (ap (list_all (is_found E k.args.right.now)) k.in-Some.ensures.cases.0))

pub returns-in_default : goal.returns-in_default
returns-in_default g k =
    let E = g.S.PartialEq.eq in
    ap (answer_after E k.args.waiting.now.items)
    (sym (ap (list_all (is_found E k.args.right.now)) (nil_from_length k.args.left.now k.in_default.ensures.cases)))
