use Rattle.std.proofs.Common.{map, refl}
use Rattle.language_values.proofs.VariablesWaiting.{taken, taken_less, dropped}
use Rattle.language_values.proofs.value.add_variables.Goals as goal

pub loop-rest-smaller-in-Continue-branch-3 : goal.loop-rest-smaller-in-Continue-branch-3
loop-rest-smaller-in-Continue-branch-3 g c =
    taken_less _ _ _ c.add_variables_of-in-Some-split_first.new.waiting.items c.in-Some.rest c.in-Some-split_first.others c.in-Some-split_first.first.now c.in-Some-split_first.ensures.less c.in-Some.ensures.items c.in_ok-push.ensures.items c.in_ok-add_variables_of-2.ensures.less

pub loop-rest-preserved-in-Continue-branch-3 : goal.loop-rest-preserved-in-Continue-branch-3
loop-rest-preserved-in-Continue-branch-3 g c =
    taken _ _ _ c.add_variables_of-in-Some-split_first.new.waiting.items c.in-Some.rest c.in-Some-split_first.others c.in-Some-split_first.first.now _ (map (λ s. s.now) c.add_variables_of-in-Some-split_first.new.found.items) _ c.in-Some-split_first.ensures.some c.in-Some.ensures.items c.in_ok-push.ensures.items c.loop-rest.invariant c.in_ok-add_variables_of-2.ensures.value

pub loop-rest-preserved : goal.loop-rest-preserved
loop-rest-preserved g c = dropped _ _ c.in-Some.rest _ _ (c.in_default-split_first.ensures.none refl) c.in-Some.ensures.items c.loop-rest.invariant
