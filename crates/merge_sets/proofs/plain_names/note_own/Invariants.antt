use Rattle.std.proofs.Common.{◌≡◌, ◌<◌, ◌≤◌, take}
use Rattle.merge_sets.specs.World.{world, own_of}
use Rattle.merge_sets.specs.Firsts.{Notes}
use Rattle.merge_sets.proofs.plain_names.note_own.Given as goal

abbrev pub invariant-loop-field : goal.invariant-loop-field
invariant-loop-field g l =
    (l.field-items ≡ own_of (world g.J.Judge.judgement l.graph) l.s)
    × Notes (g.J.Judge.are_alike l.graph.judge) (take l.field-index l.field-items) l.fn.seen l.seen
    × (l.budget ≤ l.fn.budget)
    × (0 < l.field-index → 0 < l.fn.budget → l.budget < l.fn.budget)
