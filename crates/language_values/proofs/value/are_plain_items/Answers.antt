use Rattle.std.proofs.Common.{◌∙◌, sym, true, false}
use Rattle.language_values.proofs.Steps.{all_at, all_end}
use Rattle.language_values.proofs.ValueLemmas.{is_plain_item}
use Rattle.language_values.proofs.value.are_plain_items.Goals as goal

pub loop-item-preserved : goal.loop-item-preserved
loop-item-preserved g c =
    c.loop-item.invariant
    ∙ all_at is_plain_item c.args.items.now c.loop-item.item-index c.item-item.result true c.loop-item-test.true c.item-item.is
    (sym c.is_plain.ensures ∙ c.if-not-is_plain.false)

pub returns : goal.returns
returns g c = sym (c.loop-item.invariant ∙ all_end is_plain_item c.args.items.now c.loop-item.item-index c.loop-item-test.false)

pub returns-then-not-is_plain : goal.returns-then-not-is_plain
returns-then-not-is_plain g c =
    sym (c.loop-item.invariant
    ∙ all_at is_plain_item c.args.items.now c.loop-item.item-index c.item-item.result false c.loop-item-test.true c.item-item.is
    (sym c.is_plain.ensures ∙ c.if-not-is_plain.true))
