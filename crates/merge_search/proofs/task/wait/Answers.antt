use Rattle.merge_search.specs.Tasks.{Meets}
use Rattle.merge_search.proofs.Leading.{waits_none, waits_pushed}
use Rattle.merge_search.proofs.Costs.{costs_pushed}
use Rattle.merge_search.proofs.task.wait.Goals as goal

pub returns-then-left-eq0-clause-waits : goal.returns-then-left-eq0-clause-waits
returns-then-left-eq0-clause-waits c w none = waits_none w (Meets w c.args.task) _ (none c.if-left-eq0.true)

pub returns-clause-waits : goal.returns-clause-waits
returns-clause-waits c w none = waits_pushed w c.args.task _ _ c.in_ok-push.ensures.items

pub returns-clause-costs : goal.returns-clause-costs
returns-clause-costs c w = costs_pushed w c.args.task _ _ c.in_ok-push.ensures.items
