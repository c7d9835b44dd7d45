use Rattle.merge_sets.proofs.Laws.{asked_one}
use Rattle.merge_sets.proofs.plain_names.note_field.Goals as goal

pub returns-then-contains-clause-ticks : goal.returns-then-contains-clause-ticks
returns-then-contains-clause-ticks g c = asked_one c.take_questions-may_ask.result _ _ c.take_questions-may_ask.ensures.asks c.take_questions-may_ask.ensures.fewer

pub returns-in_ok-insert-clause-ticks : goal.returns-in_ok-insert-clause-ticks
returns-in_ok-insert-clause-ticks g c = asked_one c.take_questions-may_ask.result _ _ c.take_questions-may_ask.ensures.asks c.take_questions-may_ask.ensures.fewer
