use Rattle.std.proofs.Common.{◌∙◌, sym, true, false}
use Rattle.language_values.proofs.Steps.{all_at, all_end}
use Rattle.language_values.proofs.ValueLemmas.{is_plain_entry}
use Rattle.language_values.proofs.value.are_plain_entries.Goals as goal

pub loop-v-preserved : goal.loop-v-preserved
loop-v-preserved g c =
    c.loop-v.invariant
    ∙ all_at is_plain_entry c.args.entries.now c.loop-v.v-index c.loop-v-item.result true c.loop-v-test.true c.loop-v-item.is
    (sym c.is_plain.ensures ∙ c.if-not-is_plain.false)

pub returns : goal.returns
returns g c = sym (c.loop-v.invariant ∙ all_end is_plain_entry c.args.entries.now c.loop-v.v-index c.loop-v-test.false)

pub returns-then-not-is_plain : goal.returns-then-not-is_plain
returns-then-not-is_plain g c =
    sym (c.loop-v.invariant
    ∙ all_at is_plain_entry c.args.entries.now c.loop-v.v-index c.loop-v-item.result false c.loop-v-test.true c.loop-v-item.is
    (sym c.is_plain.ensures ∙ c.if-not-is_plain.true))
