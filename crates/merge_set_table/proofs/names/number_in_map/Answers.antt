use Rattle.std.proofs.Common.{◌+◌, sym, ap, ◌∙◌}
use Rattle.std.proofs.lemmas.Map.Text.{btree_map_updates_str}
use Rattle.merge_set_table.specs.NameMap.{number_at}
use Rattle.merge_set_table.proofs.Naming.{named_kept, one_more, apart_more}
use Rattle.merge_set_table.proofs.names.number_in_map.Goals as goal

pub returns-in_ok-insert-in-None-clause-kept : goal.returns-in_ok-insert-in-None-clause-kept
returns-in_ok-insert-in-None-clause-kept c =
    named_kept (number_at c.args.map.now) (number_at c.insert.new.self) c.args.name.now c.len-next.result (sym c.in-None.ensures)
    (btree_map_updates_str c.args.name.now c.args.map.now c.insert.new.self _ c.in_ok-insert-in-None.ensures.updates)

pub returns-in_ok-insert-in-None-clause-apart : goal.returns-in_ok-insert-in-None-clause-apart
returns-in_ok-insert-in-None-clause-apart c =
    apart_more c.args.map.now c.insert.new.self c.args.name.now c.len-next.result (sym c.in-None.ensures)
    (btree_map_updates_str c.args.name.now c.args.map.now c.insert.new.self _ c.in_ok-insert-in-None.ensures.updates)
    c.len-next.ensures.len
    (one_more c.in_ok-insert-in-None.field-0 _ _ _ c.in_ok-insert-in-None.ensures.old (sym c.in-None.ensures) c.in_ok-insert-in-None.ensures.len ∙ ap (λ k. k + 1) (sym c.len-next.ensures.len))
