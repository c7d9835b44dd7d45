use Rattle.std.proofs.Common.{reverse}
use Rattle.std.specs.Option.{option_copied}
use Rattle.merge_set_table.specs.declared.tasks.Role.TheVariants.{Searched}
use Rattle.merge_set_table.specs.Known.{known_rank}
use Rattle.merge_set_table.proofs.Becoming.{Finishes}
use Rattle.merge_set_table.proofs.adding.add_selections.Given as goal

abbrev pub invariant-loop : goal.invariant-loop
invariant-loop g l =
    Finishes l.schema (known_rank l.fragments) Searched (option_copied l.parent) l.set l.fn.part l.fn.table (reverse l.tasks.items) l.part l.table
