use Rattle.std.proofs.Common.{length}
use Rattle.events.specs.Cursor.{events_left}
use Rattle.walk.specs.ContextState.{HasTypes, popped}
use Rattle.walk.proofs.Walks.{RanUpTo}
use Rattle.walk.proofs.walk.tell_all.Given as goal

-- types are pushed, and the events that are no longer left were run through
abbrev pub invariant-events : goal.invariant-events
invariant-events g l = HasTypes l.ctx × RanUpTo g.V.Machine.step (events_left l.fn.cursor) (events_left l.cursor) l.fn.v l.v (popped l.fn.ctx) (popped l.ctx)

abbrev pub decreases-events : goal.decreases-events
decreases-events g l = length (events_left l.cursor)
