use Rattle.std.proofs.Common.{refl, sym, ap, ◌∙◌, arith, slice_set}
use Rattle.merge_set_table.proofs.Lists.{set_past, set_length}
use Rattle.merge_set_table.proofs.steps.close_set.Goals as goal

pub returns-then-len-place : goal.returns-then-len-place
returns-then-len-place g c = record {
  middle = c.store_set.new.table;
  stores = c.in_ok-number.ensures;
  same = refl;
  order = sym (set_past c.store_set.new.table.order.items c.args.place c.in_ok-number.number (omega (arith, c.store_set.new.table.order.ok.0)))
      ∙ ap (λ xs. slice_set xs c.args.place c.in_ok-number.number) c.in_ok-number.ensures.order;
  inner = refl;
  size = c.in_ok-number.ensures.size;
}

pub returns : goal.returns
returns g c = record {
  middle = c.store_set.new.table;
  stores = c.in_ok-number.ensures;
  same = refl;
  order = ap (λ xs. slice_set xs c.args.place c.in_ok-number.number) c.in_ok-number.ensures.order;
  inner = refl;
  size = omega (arith, c.in_ok-number.ensures.size, set_length c.store_set.new.table.order.items c.args.place c.in_ok-number.number);
}
