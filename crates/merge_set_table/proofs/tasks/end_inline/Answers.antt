use Rattle.std.proofs.Common.{subst}
use Rattle.merge_set_table.specs.Adding.{ClosesSet}
use Rattle.merge_set_table.proofs.tasks.end_inline.Goals as goal

pub returns : goal.returns
returns g c = record {
  number = c.in_ok-close_set.field-0;
  stores = subst (λ x. ClosesSet c.args.begun.place x c.in_ok-close_set.field-0 c.args.table.now c.close_set.new.table) c.replace-inner.ensures.value c.in_ok-close_set.ensures;
  outer = c.replace-inner.ensures.after;
}
