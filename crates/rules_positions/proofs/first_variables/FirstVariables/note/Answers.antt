use Rattle.std.proofs.lemmas.Map.Text.{btree_map_updates_str}
use Rattle.std.specs.BTreeMap.{get_by}
use Rattle.std.specs.Cmp.Lexicographic.{slice_cmp}
use Rattle.std.specs.Ordering.{nat_cmp}
use Rattle.rules_positions.proofs.FirstDefinitions.{known, noted}
use Rattle.rules_positions.proofs.first_variables.FirstVariables.note.Goals as goal

pub returns-in-Some : goal.returns-in-Some
returns-in-Some g c =
    known (λ n. get_by (λ k. slice_cmp nat_cmp n k.now) c.args.self.now.entries) c.args.entry.now.0.item.now c.args.entry.now c.in-Some.field-0.now c.in-Some.ensures.value

pub returns-in_ok-insert-in-None : goal.returns-in_ok-insert-in-None
returns-in_ok-insert-in-None g c =
    let name = c.args.entry.now.0.item.now in
    noted (λ n. get_by (λ k. slice_cmp nat_cmp n k.now) c.args.self.now.entries) name (λ n. get_by (λ k. slice_cmp nat_cmp n k.now) c.insert.new.self) c.args.entry c.in-None.ensures.value
    (btree_map_updates_str name c.args.self.now.entries c.insert.new.self _ c.in_ok-insert-in-None.ensures.updates)
