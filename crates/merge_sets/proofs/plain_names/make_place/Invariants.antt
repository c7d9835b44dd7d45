use Rattle.std.proofs.Common.{◌≡◌, ℕ, ◌+◌, ◌-◌, length}
use Rattle.merge_sets.specs.Firsts.{IsFirst}
use Rattle.merge_sets.proofs.plain_names.make_place.Given as goal

abbrev pub invariant-loop-seen : goal.invariant-loop-seen
invariant-loop-seen l = (l.seen.mixed ≡ l.fn.seen.mixed) × ((n one : ℕ) → IsFirst l.fn.seen n one → IsFirst l.seen n one)

abbrev pub decreases-loop-seen : goal.decreases-loop-seen
decreases-loop-seen l = l.name + 1 - length l.seen.firsts.items
