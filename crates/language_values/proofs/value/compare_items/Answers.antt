use Rattle.std.proofs.Common.{◌∙◌, sym, ap, refl}
use Rattle.language_values.specs.declared.value.Comparison.TheVariants as c
use Rattle.language_values.specs.declared.value.Pending.TheVariants as p
use Rattle.language_values.specs.EqualSteps.{answer_after}
use Rattle.language_values.specs.ValuesEqual.{unlocated_eq}
use Rattle.language_values.proofs.AnswerAfter.{answer_after-push}
use Rattle.language_values.proofs.ValueLemmas.{same_items}
use Rattle.language_values.proofs.Steps.{pairs_first, pairs_of_none, pairs_past}
use Rattle.language_values.proofs.value.compare_items.Goals as goal

pub returns : goal.returns
returns g k =
    let E = g.S.PartialEq.eq in
    answer_after-push E k.args.waiting.now.items k.push.new.self.items (p.And (c.Items k.in-Some.xs k.in-Some-split_first.ys))
    (unlocated_eq E k.in-Some.x.now.item k.in-Some-split_first.y.now.item) k.in_ok-push.ensures.items
    ∙ ap (answer_after E k.args.waiting.now.items)
    (sym (pairs_first (same_items E) k.args.left.now k.in-Some.xs.now k.args.right.now k.in-Some-split_first.ys.now k.in-Some.x.now
    k.in-Some-split_first.y.now _ k.in-Some.ensures.cases.0 k.in-Some-split_first.ensures.cases.0 refl))

pub returns-in_default : goal.returns-in_default
returns-in_default g k =
    let E = g.S.PartialEq.eq in
    ap (answer_after E k.args.waiting.now.items)
    (pairs_of_none (same_items E) k.args.left.now k.args.right.now k.is_empty.result k.in_default.ensures.cases k.is_empty.ensures)

pub returns-in_default-split_first : goal.returns-in_default-split_first
returns-in_default-split_first g k =
    let E = g.S.PartialEq.eq in
    ap (answer_after E k.args.waiting.now.items)
    (sym (pairs_past (same_items E) k.args.left.now k.in-Some.xs.now k.args.right.now k.in-Some.x.now k.in-Some.ensures.cases.0
    k.in_default-split_first.ensures.cases))
