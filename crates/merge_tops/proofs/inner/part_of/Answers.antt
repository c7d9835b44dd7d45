use Rattle.std.proofs.Common.{◌-◌, arith}
use Rattle.merge_tops.proofs.Again.{part_none, part_taken}
use Rattle.merge_tops.proofs.inner.part_of.Goals as goal

pub returns-then-inner-fields-clause-part : goal.returns-then-inner-fields-clause-part
returns-then-inner-fields-clause-part c =
    part_taken c.args.fields.now c.args.inner.first_field (c.args.inner.fields_end - c.args.inner.first_field)

pub returns-then-inner-fields-clause-within : goal.returns-then-inner-fields-clause-within
returns-then-inner-fields-clause-within c = λ f. omega arith

pub returns-else-inner-clause-part : goal.returns-else-inner-clause-part
returns-else-inner-clause-part c = part_none c.args.fields.now

pub returns-else-inner-clause-within : goal.returns-else-inner-clause-within
returns-else-inner-clause-within c = λ f. omega arith
