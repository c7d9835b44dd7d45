use Rattle.std.proofs.Common.{◌≡◌, ◌∷◌, ◌++◌, [], ◌∙◌, length, suc, ap, cond, sym, subst, arith, slice_set}
use Rattle.std.specs.Option.{is_some}
use Rattle.name_tables.specs.Slots.{slot_number}
use Rattle.name_tables.specs.Looking.{AreHeld, AreWithin, index_in}
use Rattle.name_tables.proofs.Looking.{index_free, longer}
use Rattle.name_tables.proofs.Taking.{take_held, take_indices, take_taken}
use Rattle.name_tables.proofs.map.NameMap.take_slot.Goals as goal

pub invariant_of-self-2 : goal.invariant_of-self-2
invariant_of-self-2 g c =
    let m = c.args.self.now in
    let next : c.len-2.result ≡ suc (length m.entries.items) = let l = c.len-2.ensures in let p = c.in_ok-push.ensures.len in omega (arith, l, p) in
    let at = c.slot_of-slot.ensures.exact ∙ ap (slot_number c.args.name.now) (c.len.ensures ∙ m.slots.ok.0) in
    record {
      held = subst (λ es. AreHeld es (slice_set m.slots.items c.slot_of-slot.result c.len-2.result)) (sym c.in_ok-push.ensures.items)
          (take_held m.entries.items m.slots.items m.others c.args.name c.args.value c.slot_of-slot.result c.len-2.result at c.requires next m.held m.taken);
      within = subst (λ es. AreWithin es m.others) (sym c.in_ok-push.ensures.items) (λ name k h. longer m.entries.items (c.args.name, c.args.value) k (m.within name k h));
      taken = take_taken m.entries.items m.slots.items m.others c.args.name c.args.value c.slot_of-slot.result c.len-2.result at c.requires next m.held m.taken;
    }

pub returns-clause-adds : goal.returns-clause-adds
returns-clause-adds g c =
    let m = c.args.self.now in
    let next : c.len-2.result ≡ suc (length m.entries.items) = let l = c.len-2.ensures in let p = c.in_ok-push.ensures.len in omega (arith, l, p) in
    let at = c.slot_of-slot.ensures.exact ∙ ap (slot_number c.args.name.now) (c.len.ensures ∙ m.slots.ok.0) in
    let absent = index_free m.entries.items m.others m.slots.items c.args.name.now c.requires in
    record {
      entries = c.in_ok-push.ensures.items ∙ ap (λ o. cond (is_some o) m.entries.items (m.entries.items ++ (c.args.name, c.args.value) ∷ [])) (sym absent);
      indices = λ other.
          ap (λ es. index_in es (slice_set m.slots.items c.slot_of-slot.result c.len-2.result) m.others other) c.in_ok-push.ensures.items
          ∙ take_indices m.entries.items m.slots.items m.others c.args.name c.args.value c.slot_of-slot.result c.len-2.result at c.requires next m.held m.taken other;
    }
