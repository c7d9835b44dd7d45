use Rattle.std.proofs.Common.{◌≡◌, ◌+◌, ◌*◌, ◌^◌, ◌-◌, length}
use Rattle.std.specs.Prelude.{min}
use Rattle.language.specs.SelectionsInside.{all_inside}
use Rattle.measures.specs.Measure.{capped, together}
use Rattle.measures.specs.Written.{set_measures}
use Rattle.measures.specs.Walk.{noted, waiting_measures, waiting_inside}
use Rattle.measures.proofs.walk.measure_set.Given as goal

-- what was added up and what is left is all, and so is what was counted
abbrev pub invariant-loop-part : goal.invariant-loop-part
invariant-loop-part g l = record {
  value : capped (together l.sum (waiting_measures (noted l.numbers l.table) l.waiting.items)) ≡ capped (set_measures (noted l.numbers l.table) l.fn.set);
  small : capped l.sum ≡ l.sum;
  counted : min (l.count + waiting_inside l.waiting.items) (2 ^ 128 - 1) ≡ min (all_inside l.fn.set) (2 ^ 128 - 1);
  low : min l.count (2 ^ 128 - 1) ≡ l.count;
}

abbrev pub decreases-loop-part : goal.decreases-loop-part
decreases-loop-part g l = 2 * waiting_inside l.waiting.items + length l.waiting.items
