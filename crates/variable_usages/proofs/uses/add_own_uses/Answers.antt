use Rattle.std.proofs.Common.{map}
use Rattle.std.proofs.lemmas.Result.{on_ok_weaker}
use Rattle.variable_usages.specs.Uses.{use_of}
use Rattle.variable_usages.proofs.UseLemmas.{field_own, spread_own, inline_own}
use Rattle.variable_usages.proofs.uses.add_own_uses.Goals as goal

pub returns-in_ok-add_arguments-in-Field : goal.returns-in_ok-add_arguments-in-Field
returns-in_ok-add_arguments-in-Field g c =
    on_ok_weaker c.add_directives.result
    (field_own c.args.selection.now (map use_of c.args.found.now.items) c.in-Field.field (map use_of c.add_arguments.new.found.items) (map use_of c.add_directives.new.found.items)
    c.in-Field.is c.in_ok-add_arguments-in-Field.ensures)
    c.add_directives.ensures

pub returns-in-FragmentSpread : goal.returns-in-FragmentSpread
returns-in-FragmentSpread g c =
    on_ok_weaker c.add_directives-in-FragmentSpread.result
    (spread_own c.args.selection.now (map use_of c.args.found.now.items) c.in-FragmentSpread.spread (map use_of c.add_directives-in-FragmentSpread.new.found.items) c.in-FragmentSpread.is)
    c.add_directives-in-FragmentSpread.ensures

pub returns-in-InlineFragment : goal.returns-in-InlineFragment
returns-in-InlineFragment g c =
    on_ok_weaker c.add_directives-in-InlineFragment.result
    (inline_own c.args.selection.now (map use_of c.args.found.now.items) c.in-InlineFragment.inline (map use_of c.add_directives-in-InlineFragment.new.found.items) c.in-InlineFragment.is)
    c.add_directives-in-InlineFragment.ensures
