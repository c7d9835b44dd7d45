use Rattle.std.proofs.Common.{◌<◌, ◌++◌, ◌∙◌, ℕ, List, ap, length, map, arith}
use Rattle.walk.specs.ContextState.{with_errors}
use Rattle.rules_support.specs.Repeats.{repeats}
use Rattle.rules_support.proofs.RepeatsSeen.{none_repeat, seen_all, seen_more, seen_none}
use Rattle.rules_support.proofs.repeats.report_repeats.Goals as goal

pub returns-then-len-lt2-clause-ok : goal.returns-then-len-lt2-clause-ok
returns-then-len-lt2-clause-ok g c =
    let few : length c.args.entries.now.items < 2 = grind (arith, c.len.ensures, c.if-len-lt2.true) in
    none_repeat _ g.N.HasName.named c.args.entries.now.items c.args.ctx.now few

pub loop-entry-init : goal.loop-entry-init
loop-entry-init g c = seen_none _ _ c.args.ctx.now (c.make_room.ensures.kept ∙ c.new-names.ensures.places)

pub loop-entry-preserved : goal.loop-entry-preserved
loop-entry-preserved g c =
    seen_more _ g.N.HasName.named c.deref-entry-items.result.now c.loop-entry.entry-index c.entry-item.result _ _ _ _ _ _ _ c.loop-entry-test.true c.entry-item.is c.loop-entry.invariant c.name.ensures c.place.ensures c.in_ok-report_repeat.ensures.kept c.in_ok-report_repeat.ensures.ok

pub returns-clause-ok : goal.returns-clause-ok
returns-clause-ok g c =
    let message : List ℕ → List ℕ = λ name. (c.args.before.now ++ name) ++ c.args.after.now in
    seen_all message g.N.HasName.named c.deref-entry-items.result.now c.loop-entry.entry-index _ c.args.ctx.now c.loop-entry.ctx c.loop-entry-test.false c.loop-entry.invariant
    ∙ ap (λ xs. with_errors c.args.ctx.now (repeats message (map g.N.HasName.named xs))) c.deref-entry-items.ensures.value
