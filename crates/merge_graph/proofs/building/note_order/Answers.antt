use Rattle.std.proofs.Common.{◌++◌, Some, length, slice_set, refl, ap, ap₂, ◌∙◌, arith}
use Rattle.merge_graph.proofs.building.note_order.Goals as goal

pub returns : goal.returns
returns g c = record {
  free = c.requires;
  order = c.in_ok-extend_from_slice.ensures.items ∙ ap (λ z. c.args.building.now.order.items ++ z) c.as_slice.ensures.value;
  stretches = ap₂ (λ start end. slice_set c.args.building.now.stretches.items c.args.place (Some (start, end)))
      (let e = c.len-start.ensures in let long = c.args.building.now.order.ok.0 in omega (arith, e, long))
      (let e = c.len.ensures in let long = c.extend_from_slice.new.self.ok.0 in omega (arith, e, long));
  same = refl;
  inner = refl;
  empty = c.clear.ensures.items;
  fragments = refl;
  size = let none = ap length c.clear.ensures.items in omega (arith, none);
}
