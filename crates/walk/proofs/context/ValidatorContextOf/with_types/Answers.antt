use Rattle.std.proofs.Common.{refl}
use Rattle.walk.proofs.context.ValidatorContextOf.with_types.Goals as goal

-- f was called at the types that were pushed
pub returns-clause-ok : goal.returns-clause-ok
returns-clause-ok g c = record {
  left = c.f-answer.new.arg2;
  answers = record { shown = _; shows = c.in_ok-push_types.ensures.ok; left = _; met = c.f-answer.ensures; leaves = refl };
  popped_after = c.pop_types.ensures;
}
