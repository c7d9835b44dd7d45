use Rattle.std.proofs.Common.{◌≡◌, ◌<◌, ℕ, Some, arith, length, slice_get, subst, sym}
use Rattle.graph_ways.specs.Backwards.{IsOf}
use Rattle.graph_ways.specs.Ways.{links_to}
use Rattle.graph_ways.proofs.Links.{to_real}
use Rattle.graph_ways.proofs.Stepping.{inside, last_of}
use Rattle.graph_ways.proofs.backwards.step.Goals as goal

pub links_to-links-requires-clause-node : goal.links_to-links-requires-clause-node
links_to-links-requires-clause-node c =
    let r = c.requires.round in
    let last = c.requires.last in
    inside c.args.graph.now c.args.order.now c.args.root c.args.search.now r c.args.node c.args.root
    (last_of c.args.graph.now c.args.order.now c.args.root c.args.search.now r last.0 c.args.node last.1)

pub item_at-next-requires : goal.item_at-next-requires
item_at-next-requires c =
    let s = c.args.search.now in
    let r = c.requires.round in
    let last = c.requires.last in
    let of_root = last_of c.args.graph.now c.args.order.now c.args.root s r last.0 c.args.node last.1 in
    let room : c.args.node < length c.args.graph.now =
    inside c.args.graph.now c.args.order.now c.args.root s r c.args.node c.args.root of_root in
    let sized : length s.entered.items ≡ length c.args.graph.now = r.sound.entered_sized in
    rw c.as_slice.ensures.value (omega (arith, room, sized))

pub enter-requires-clause-target : goal.enter-requires-clause-target
enter-requires-clause-target c =
    let g = c.args.graph.now in
    let s = c.args.search.now in
    let last = c.requires.last in
    let link = rw c.links_to-links.ensures at c.item_at-link.ensures in
    let e = (to_real g c.args.node c.item_at-next.result c.item_at-link.result link).1 in
    let of_root = last_of g c.args.order.now c.args.root s c.requires.round last.0 c.args.node last.1 in
    subst (λ (v : ℕ). IsOf s.roots.items c.args.root v) (sym e) of_root

pub enter-requires-clause-link : goal.enter-requires-clause-link
enter-requires-clause-link c =
    let g = c.args.graph.now in
    let next = c.item_at-next.result in
    let l = c.item_at-link.result in
    let link = rw c.links_to-links.ensures at c.item_at-link.ensures in
    subst (λ (v : ℕ). slice_get (links_to g v) next ≡ Some l) (sym (to_real g c.args.node next l link).1) link

pub enter-requires-clause-next : goal.enter-requires-clause-next
enter-requires-clause-next c =
    let g = c.args.graph.now in
    let s = c.args.search.now in
    let next = c.item_at-next.result in
    let l = c.item_at-link.result in
    let link = rw c.links_to-links.ensures at c.item_at-link.ensures in
    subst (λ (v : ℕ). slice_get s.entered.items v ≡ Some next) (sym (to_real g c.args.node next l link).1)
    (rw c.as_slice.ensures.value at c.item_at-next.ensures)
