use Rattle.std.proofs.Common.{subst, sym, map, ◌<◌}
use Rattle.std.proofs.lemmas.List.{length-set}
use Rattle.std.proofs.lemmas.List.Elements.{All-set}
use Rattle.meta.specs.Places.{IsFirst}
use Rattle.meta.proofs.PlaceLemmas.{first_is_first}
use Rattle.meta.proofs.places.slots_of.Goals as goal

pub loop-item-preserved : goal.loop-item-preserved
loop-item-preserved g c =
    let names = map g.T.Named.name_of c.args.items.now in
    let first : IsFirst names c.place_in_order.result = subst (λ o. IsFirst names o) (sym c.place_in_order.ensures) (first_is_first names _) in (
      subst (λ n. 0 < n) (sym (length-set c.loop-item.slots.items c.slot_of-slot.result c.place_in_order.result)) c.loop-item.invariant.0,
      All-set (IsFirst names) c.loop-item.slots.items c.slot_of-slot.result c.place_in_order.result first c.loop-item.invariant.1,
    )
