use Rattle.type_system_circles.proofs.Firsts.{begins, turned_by}
use Rattle.type_system_circles.proofs.first.from_first.Goals as goal

pub returns-clause-turned : goal.returns-clause-turned
returns-clause-turned c = (
  c.first_index-first.result,
  turned_by c.args.links.now c.first_index-first.result c.in_ok-turned.turned.items c.extend_from_slice.new.self.items c.extend_from_slice-2.new.self.items
      c.in_ok-turned.ensures.items c.in_ok-extend_from_slice.ensures.items c.in_ok-extend_from_slice-2.ensures.items,
)

pub returns-clause-first : goal.returns-clause-first
returns-clause-first c =
    let h = c.first_index-first.ensures in
    begins c.args.links.now c.first_index-first.result h.0 c.extend_from_slice-2.new.self.items h.1 h.2
    (turned_by c.args.links.now c.first_index-first.result c.in_ok-turned.turned.items c.extend_from_slice.new.self.items c.extend_from_slice-2.new.self.items
    c.in_ok-turned.ensures.items c.in_ok-extend_from_slice.ensures.items c.in_ok-extend_from_slice-2.ensures.items)
