use Rattle.std.proofs.Common.{◌^◌, ◌-◌, ◌+◌, ◌∙◌, ap, refl, sym, arith}
use Rattle.std.specs.Prelude.{min}
use Rattle.std.proofs.lemmas.List.{nil_from_length}
use Rattle.measures.specs.Levels.{at_level}
use Rattle.measures.specs.Measure.{capped, together}
use Rattle.measures.specs.Walk.{noted}
use Rattle.measures.proofs.Adding.{begun, begun_inside, ended, taken, taken_inside, taken_less, dropped, dropped_inside, counted_next, capped_low}
use Rattle.measures.proofs.Algebra.{at_most-nothing, at_most-twice}
use Rattle.measures.proofs.walk.measure_set.Goals as goal

pub loop-part-init : goal.loop-part-init
loop-part-init g c = record {
  value = begun (2 ^ 128 - 1) (noted c.args.numbers.now c.args.table.now) c.args.set.now _ _ _ c.no_measures-sum.result c.no_measures-sum.ensures c.new-waiting.ensures.items c.in_ok-push.ensures.items refl c.root_level.ensures;
  small = ap capped c.no_measures-sum.ensures ∙ at_most-nothing (2 ^ 128 - 1) ∙ sym c.no_measures-sum.ensures;
  counted = omega (arith, begun_inside c.args.set.now _ _ _ c.new-waiting.ensures.items c.in_ok-push.ensures.items refl);
  low = refl;
}

pub loop-part-smaller-in-Continue-branch-3 : goal.loop-part-smaller-in-Continue-branch-3
loop-part-smaller-in-Continue-branch-3 g c =
    taken_less _ _ _ c.add_selection.new.waiting.items c.in-Some.part (record { set = c.in-Some-split_first.others; level = c.in-Some.part.level }) c.in-Some.ensures.items c.in_ok-push-2.ensures.items c.in_ok-add_selection.ensures.longer
    (taken_inside _ _ _ c.add_selection.new.waiting.items c.in-Some.part (record { set = c.in-Some-split_first.others; level = c.in-Some.part.level }) c.in-Some-split_first.first.now c.in-Some-split_first.ensures.cases.0 c.in-Some.ensures.items c.in_ok-push-2.ensures.items c.in_ok-add_selection.ensures.inside)

pub loop-part-preserved-in-Continue-branch-3 : goal.loop-part-preserved-in-Continue-branch-3
loop-part-preserved-in-Continue-branch-3 g c = record {
  value =
      taken (2 ^ 128 - 1) (noted c.args.numbers.now c.args.table.now) _ _ _ c.add_selection.new.waiting.items c.in-Some.part (record { set = c.in-Some-split_first.others; level = c.in-Some.part.level }) c.in-Some-split_first.first.now c.loop-part.sum c.add_selection.new.sum _
      c.in-Some-split_first.ensures.cases.0 refl c.in-Some.ensures.items c.in_ok-push-2.ensures.items c.in_ok-add_selection.ensures.value c.loop-part.invariant.value;
  small = c.in_ok-add_selection.ensures.small;
  counted =
      counted_next (2 ^ 128 - 1) c.loop-part.count c.saturating_add-count.result _ _ _ c.saturating_add-count.ensures
      (taken_inside _ _ _ c.add_selection.new.waiting.items c.in-Some.part (record { set = c.in-Some-split_first.others; level = c.in-Some.part.level }) c.in-Some-split_first.first.now c.in-Some-split_first.ensures.cases.0 c.in-Some.ensures.items c.in_ok-push-2.ensures.items c.in_ok-add_selection.ensures.inside)
      c.loop-part.invariant.counted;
  low = capped_low (2 ^ 128 - 1) (c.loop-part.count + 1) c.saturating_add-count.result c.saturating_add-count.ensures;
}

pub loop-part-preserved : goal.loop-part-preserved
loop-part-preserved g c = record {
  value =
      dropped (2 ^ 128 - 1) (noted c.args.numbers.now c.args.table.now) _ _ c.in-Some.part c.loop-part.sum c.joined-sum.result _ (nil_from_length _ c.in_default-split_first.ensures.cases) c.in-Some.ensures.items
      (c.joined-sum.ensures ∙ ap (λ z. capped (together c.loop-part.sum z)) (c.at_level.ensures ∙ ap (λ z. capped (at_level c.in-Some.part.level z)) c.no_measures.ensures)) c.loop-part.invariant.value;
  small = ap capped c.joined-sum.ensures ∙ at_most-twice (2 ^ 128 - 1) (together c.loop-part.sum c.at_level.result) ∙ sym c.joined-sum.ensures;
  counted =
      ap (λ n. min (c.loop-part.count + n) (2 ^ 128 - 1)) (dropped_inside _ _ c.in-Some.part (nil_from_length _ c.in_default-split_first.ensures.cases) c.in-Some.ensures.items)
      ∙ c.loop-part.invariant.counted;
  low = c.loop-part.invariant.low;
}

pub returns-clause-value : goal.returns-clause-value
returns-clause-value g c =
    ended (2 ^ 128 - 1) (noted c.args.numbers.now c.args.table.now) c.loop-part.waiting.items c.loop-part.sum _ (nil_from_length _ (let long = c.loop-part.waiting.ok.0 in let none = c.in_default.ensures.cases.0 in omega (arith, long, none))) c.loop-part.invariant.small c.loop-part.invariant.value
