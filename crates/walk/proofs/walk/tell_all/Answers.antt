use Rattle.walk.proofs.Runs.{HasTypes-stepped, Stepped-below}
use Rattle.walk.proofs.Walks.{up_to_none, up_to_next}
use Rattle.walk.proofs.walk.tell_all.Goals as goal

pub events-init : goal.events-init
events-init g c = (c.requires.typed, up_to_none g.V.Machine.step _ _ _)

pub next_event-requires : goal.next_event-requires
next_event-requires g c = record { typed = c.events.invariant.0 }

pub events-preserved : goal.events-preserved
events-preserved g c = (
  HasTypes-stepped g.V.Machine.step _ _ _ _ _ c.in_ok-event.ensures.typed c.in_ok-tell_here-in-Some.ensures.stepped,
  up_to_next g.V.Machine.step _ _ _ _ _ _ _ _ _ _ _ c.events.invariant.1 (rw c.in-Some.is at c.in_ok-event.ensures.next) c.in_ok-event.ensures.ok
      (Stepped-below g.V.Machine.step _ _ _ _ _ c.in_ok-tell_here-in-Some.ensures.stepped),
)
