use Rattle.std.proofs.Common.{◌≡◌, ◌∷◌, ◌++◌, [], ◌∙◌, ◌-◌, ap, arith, cond, length, refl, Some, subst, sym, take}
use Rattle.std.specs.Option.{is_some}
use Rattle.std.specs.Map.{update}
use Rattle.std.specs.Str.{bytes_eq}
use Rattle.std.proofs.lemmas.Map.Text.{btree_map_updates_str}
use Rattle.name_tables.specs.Looking.{other_index, AreHeld, AreWithin, index_in}
use Rattle.name_tables.proofs.Copying.{copy_indices}
use Rattle.name_tables.proofs.Lists.{take_front}
use Rattle.name_tables.proofs.Looking.{other_same}
use Rattle.name_tables.proofs.Passing.{pass_held, pass_indices, pass_taken, pass_within}
use Rattle.name_tables.proofs.map.NameMap.add_other.Goals as goal

pub invariant_of-self-in-Ok : goal.invariant_of-self-in-Ok
invariant_of-self-in-Ok g c =
    let m = c.args.self.now in
    let next = c.len-next.ensures ∙ m.entries.ok.0 in
    let updates = subst (λ k. (q : _) → other_index c.insert.new.self q ≡ update bytes_eq (other_index m.others) c.args.name.now (Some k) q) next
    (btree_map_updates_str c.args.name.now m.others c.insert.new.self (Some c.len-next.result) c.in-Ok.ensures.updates) in
    record {
      held = subst (λ es. AreHeld es m.slots.items) (sym c.in_ok-push.ensures.items)
          (pass_held m.entries.items m.slots.items m.others c.insert.new.self c.args.name c.args.value c.requires.taken c.requires.new updates m.held m.within m.taken);
      within = subst (λ es. AreWithin es c.insert.new.self) (sym c.in_ok-push.ensures.items)
          (pass_within m.entries.items m.slots.items m.others c.insert.new.self c.args.name c.args.value c.requires.taken c.requires.new updates m.held m.within m.taken);
      taken = pass_taken m.entries.items m.slots.items m.others c.insert.new.self c.args.name c.args.value c.requires.taken c.requires.new updates m.held m.within m.taken;
    }

pub returns-in-Ok-clause-adds : goal.returns-in-Ok-clause-adds
returns-in-Ok-clause-adds g c =
    let m = c.args.self.now in
    let next = c.len-next.ensures ∙ m.entries.ok.0 in
    let updates = subst (λ k. (q : _) → other_index c.insert.new.self q ≡ update bytes_eq (other_index m.others) c.args.name.now (Some k) q) next
    (btree_map_updates_str c.args.name.now m.others c.insert.new.self (Some c.len-next.result) c.in-Ok.ensures.updates) in
    record {
      entries = c.in_ok-push.ensures.items ∙ ap (λ o. cond (is_some o) m.entries.items (m.entries.items ++ (c.args.name, c.args.value) ∷ [])) (sym c.requires.new);
      indices = λ other.
          ap (λ es. index_in es m.slots.items c.insert.new.self other) c.in_ok-push.ensures.items
          ∙ pass_indices m.entries.items m.slots.items m.others c.insert.new.self c.args.name c.args.value c.requires.taken c.requires.new updates m.held m.within m.taken other;
    }

pub returns-in-Err-clause-err : goal.returns-in-Err-clause-err
returns-in-Err-clause-err g c =
    let m = c.args.self.now in
    let less : c.push.new.self.len - 1 ≡ length m.entries.items = let p = c.in_ok-push.ensures.len in let l = m.entries.ok.0 in omega (arith, p, l) in
    let back = c.pop.ensures.rest ∙ ap (λ k. take k c.push.new.self.items) less ∙ ap (take (length m.entries.items)) c.in_ok-push.ensures.items ∙ take_front m.entries.items ((c.args.name, c.args.value) ∷ []) in
    record {
      entries = back;
      indices = copy_indices m.entries.items c.pop.new.self.items m.slots.items m.slots.items m.others c.insert.new.self back refl (other_same m.others c.insert.new.self c.in-Err.ensures.err);
    }
