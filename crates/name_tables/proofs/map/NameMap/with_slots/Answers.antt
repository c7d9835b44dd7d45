use Rattle.name_tables.proofs.Looking.{index_none, other_empty}
use Rattle.name_tables.proofs.map.NameMap.with_slots.Goals as goal

pub returns-clause-none : goal.returns-clause-none
returns-clause-none g c = index_none c.new.result.items c.new-2.result c.in_ok-slots.slots.items c.slot_count.result (c.in_ok-slots.ensures.items_if_clones_equal (λ y e. e)) (other_empty c.new-2.result c.new-2.ensures.empty)
