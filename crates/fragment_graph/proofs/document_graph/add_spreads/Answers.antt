use Rattle.std.proofs.Common.{◌++◌, map, subst, ap, ◌∙◌, option_copied}
use Rattle.std.specs.List.{flat_map}
use Rattle.fragment_graph.specs.Preorder.{left, set_inside, ComesNext, Gives}
use Rattle.fragment_graph.specs.Spreads.{placed_spreads_of}
use Rattle.fragment_graph.specs.DocumentGraph.{resolved}
use Rattle.fragment_graph.proofs.PreorderLaws.{gathered_next, gathered_all, fewer_left, flat_map-of_maps}
use Rattle.fragment_graph.proofs.document_graph.add_spreads.Goals as goal

pub loop-selections-init : goal.loop-selections-init
loop-selections-init g c =
    ap (λ zs. c.args.found.now.items ++ flat_map (λ s. map (resolved c.args.numbers.now) (placed_spreads_of s)) zs) c.new-selections.ensures

pub loop-selections-preserved : goal.loop-selections-preserved
loop-selections-preserved g c =
    let n = c.args.numbers.now in
    let s = c.in-Some.selection.now in
    let next : ComesNext c.loop-selections.selections c.next.new.self s =
    subst (λ o. Gives c.loop-selections.selections c.next.new.self (option_copied o)) c.in-Some.is c.in_ok-selection.ensures in
    gathered_next (λ x. map (resolved n) (placed_spreads_of x)) s (set_inside s) next.others (left c.loop-selections.selections) (left c.next.new.self)
    c.loop-selections.found.items c.add_own_spread.new.found.items _ next.first next.after
    (ap (λ z. c.add_own_spread.new.found.items ++ z) (flat_map-of_maps (resolved n) placed_spreads_of (set_inside s)) ∙ c.in_ok-add_own_spread.ensures)
    c.loop-selections.invariant

pub loop-selections-smaller : goal.loop-selections-smaller
loop-selections-smaller g c =
    fewer_left c.loop-selections.selections c.next.new.self c.in-Some.selection.now
    (subst (λ o. Gives c.loop-selections.selections c.next.new.self (option_copied o)) c.in-Some.is c.in_ok-selection.ensures)

pub returns : goal.returns
returns g c =
    gathered_all (λ x. map (resolved c.args.numbers.now) (placed_spreads_of x)) (left c.loop-selections.selections) c.loop-selections.found.items _
    (subst (λ o. Gives c.loop-selections.selections c.next.new.self (option_copied o)) c.in_default.is c.in_ok-selection.ensures) c.loop-selections.invariant
    ∙ ap (λ z. c.args.found.now.items ++ z) (flat_map-of_maps (resolved c.args.numbers.now) placed_spreads_of c.args.set.now)
