use Rattle.std.proofs.Common.{map}
use Rattle.std.proofs.lemmas.List.{nil_from_length}
use Rattle.language.proofs.SpreadsWaiting.{taken, taken_less, dropped}
use Rattle.language.proofs.spreads.add_spreads.Goals as goal

pub loop-rest-smaller-in-Continue-branch-3 : goal.loop-rest-smaller-in-Continue-branch-3
loop-rest-smaller-in-Continue-branch-3 g c =
    taken_less _ _ _ c.add_spreads_of.new.waiting.items c.in-Some.rest c.in-Some-split_first.others c.in-Some-split_first.first.now c.in-Some-split_first.ensures.cases.0 c.in-Some.ensures.items c.in_ok-push-2.ensures.items c.in_ok-add_spreads_of.ensures.less

pub loop-rest-preserved-in-Continue-branch-3 : goal.loop-rest-preserved-in-Continue-branch-3
loop-rest-preserved-in-Continue-branch-3 g c =
    taken _ _ _ c.add_spreads_of.new.waiting.items c.in-Some.rest c.in-Some-split_first.others c.in-Some-split_first.first.now _ (map (λ s. s.now) c.add_spreads_of.new.found.items) _ c.in-Some-split_first.ensures.cases.0 c.in-Some.ensures.items c.in_ok-push-2.ensures.items c.loop-rest.invariant c.in_ok-add_spreads_of.ensures.value

pub loop-rest-preserved : goal.loop-rest-preserved
loop-rest-preserved g c = dropped _ _ c.in-Some.rest _ _ (nil_from_length _ c.in_default-split_first.ensures.cases) c.in-Some.ensures.items c.loop-rest.invariant
