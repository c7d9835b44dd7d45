use Rattle.std.proofs.Common.{map}
use Rattle.std.proofs.lemmas.Result.{on_ok_weaker}
use Rattle.merge_field_pairs.specs.Entries.{plain}
use Rattle.merge_conflicts.specs.Tasks.{MeetsWhy}
use Rattle.merge_conflicts.proofs.Leading.{all_done}
use Rattle.merge_conflicts.proofs.reasons.add_why.Goals as goal

pub returns : goal.returns
returns g c u h =
    on_ok_weaker c.tell_all.result
    (λ all. all_done g.S.PartialEq.eq c.args.schema.now (map plain c.args.fields.now) (MeetsWhy g.S.PartialEq.eq c.args.schema.now (map plain c.args.fields.now) c.args.part.now) _ _ _ c.args.account.now _ c.new-tasks.ensures.items c.in_ok-begin_why.ensures all u h)
    c.tell_all.ensures
