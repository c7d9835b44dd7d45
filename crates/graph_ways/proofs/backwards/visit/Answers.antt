use Rattle.std.proofs.Common.{◌≡◌, ◌<◌, ◌+◌, ℕ, arith, length, subst, sym}
use Rattle.graph_ways.specs.Backwards.{Idle}
use Rattle.graph_ways.proofs.Rounds.{known}
use Rattle.graph_ways.proofs.backwards.visit.Goals as goal

pub item_at-requires : goal.item_at-requires
item_at-requires c =
    let g = c.args.graph.now in
    let s = c.args.search.now in
    let room = (c.requires.order.ranked c.args.rank c.item_at-root.result (rw c.as_slice.ensures.value at c.item_at-root.ensures)).0 in
    let inside : c.item_at-root.result < length g = room in
    let sized : length s.roots.items ≡ length g = c.requires.idle.sound.roots_sized in
    rw c.as_slice-2.ensures.value (omega (arith, inside, sized))

pub begin-requires-clause-inside : goal.begin-requires-clause-inside
begin-requires-clause-inside c =
    (c.requires.order.ranked c.args.rank c.item_at-root.result (rw c.as_slice.ensures.value at c.item_at-root.ensures)).0

pub begin-requires-clause-idle : goal.begin-requires-clause-idle
begin-requires-clause-idle c =
    let at = rw c.as_slice.ensures.value at c.item_at-root.ensures in
    let same = (c.requires.order.ranked c.args.rank c.item_at-root.result at).1 in
    subst (λ (k : ℕ). Idle c.args.graph.now c.args.order.now (k + 1) c.args.search.now) (sym same) c.requires.idle

pub returns-in-Some : goal.returns-in-Some
returns-in-Some c =
    let s = c.args.search.now in
    let i = c.requires.idle in
    record {
      sound = known c.args.graph.now c.args.order.now c.requires.order c.args.rank c.item_at-root.result
          (rw c.as_slice.ensures.value at c.item_at-root.ensures) s.roots.items s.onward.items s.entered.items s.waiting.items i.sound
          c.in-Some.field-0 (rw c.as_slice-2.ensures.value at c.in-Some.ensures);
      none = i.none;
    }
