use Rattle.std.proofs.Common.{sym, ap, ◌∙◌}
use Rattle.fragment_graph.specs.Spreads.{placed_spreads_of, placed_spreads_of_all}
use Rattle.fragment_graph.proofs.OwnSpreads.{none_own, one_own}
use Rattle.fragment_graph.proofs.Placed.{placed-roll-Field, placed-Inline}
use Rattle.fragment_graph.proofs.PreorderLaws.{set_of_field, set_inside-Inline}
use Rattle.fragment_graph.proofs.document_graph.add_own_spread.Goals as goal

pub returns-in-Field : goal.returns-in-Field
returns-in-Field g c =
    none_own c.args.numbers.now c.args.selection.now c.args.found.now.items
    (placed-roll-Field c.args.selection.now c.in-Field._field c.in-Field.is
    ∙ set_of_field placed_spreads_of c.args.selection.now c.in-Field._field c.in-Field.is)

pub returns-in_ok-push-in-FragmentSpread : goal.returns-in_ok-push-in-FragmentSpread
returns-in_ok-push-in-FragmentSpread g c =
    one_own c.args.numbers.now c.args.selection.now c.in-FragmentSpread.spread c.resolve.result c.args.found.now.items c.push.new.self.items
    c.in-FragmentSpread.is c.resolve.ensures c.in_ok-push-in-FragmentSpread.ensures.items

pub returns-in-InlineFragment : goal.returns-in-InlineFragment
returns-in-InlineFragment g c =
    none_own c.args.numbers.now c.args.selection.now c.args.found.now.items
    (placed-Inline c.args.selection.now c.in-InlineFragment._inline c.in-InlineFragment.is
    ∙ ap placed_spreads_of_all (sym (set_inside-Inline c.args.selection.now c.in-InlineFragment._inline c.in-InlineFragment.is)))
