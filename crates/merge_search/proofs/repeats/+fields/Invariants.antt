use Rattle.std.proofs.Common.{◌≡◌, ◌+◌, ◌*◌, ◌<◌, ◌≤◌, take}
use Rattle.merge_search.specs.Weight.{fields_weight}
use Rattle.merge_sets.specs.World.{world, own_of}
use Rattle.merge_search.proofs.repeats.+fields.Given as goal

abbrev pub decreases-less_fields : goal.decreases-less_fields
decreases-less_fields g l = 2 * l.number + 1

abbrev pub decreases-less_field : goal.decreases-less_field
decreases-less_field g l = 2 * l.number

abbrev pub invariant-less_fields-loop-field : goal.invariant-less_fields-loop-field
invariant-less_fields-loop-field g l =
    let v = world g.J.Judge.judgement l.graph in
    (l.left ≤ l.number) × (0 < l.left → l.left + fields_weight v (take l.field-index (own_of v l.s)) ≡ l.number)
