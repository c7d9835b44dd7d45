use Rattle.std.proofs.Common.{map}
use Rattle.std.proofs.lemmas.Result.{on_ok_weaker}
use Rattle.merge_field_pairs.specs.Entries.{plain}
use Rattle.merge_conflicts.proofs.Leading.{leads_task}
use Rattle.merge_conflicts.proofs.reasons.step.Goals as goal

pub returns-in-One : goal.returns-in-One
returns-in-One g c = on_ok_weaker c.begin_part.result (λ go. leads_task g.S.PartialEq.eq c.args.schema.now (map plain c.args.fields.now) c.args.task _ _ _ _ _ c.in-One.is go) c.begin_part.ensures

pub returns-in-Others : goal.returns-in-Others
returns-in-Others g c = on_ok_weaker c.next_part.result (λ go. leads_task g.S.PartialEq.eq c.args.schema.now (map plain c.args.fields.now) c.args.task _ _ _ _ _ c.in-Others.is go) c.next_part.ensures
