use Rattle.std.proofs.Common.{reverse, option_copied}
use Rattle.std.proofs.lemmas.List.{nil_from_length}
use Rattle.std.proofs.lemmas.Result.{on_ok_weaker}
use Rattle.merge_set_table.specs.Known.{known_rank}
use Rattle.merge_set_table.proofs.Becoming.{pushed, members_end, members_next}
use Rattle.merge_set_table.proofs.adding.add_next.Goals as goal

pub returns-in_default : goal.returns-in_default
returns-in_default g c =
    members_end c.args.schema.now (known_rank c.args.fragments.now) c.args.members.role (option_copied c.args.members.parent) c.args.members.set.now
    (reverse c.args.tasks.now.items) c.args.part.now c.args.table.now (nil_from_length _ c.in_default.ensures.cases)

pub returns : goal.returns
returns g c =
    on_ok_weaker c.add_member.result
    (members_next c.args.schema.now (known_rank c.args.fragments.now) _ c.args.members.set.now c.in-Some.first.now
    (reverse c.add_member.new.tasks.items) (reverse c.args.tasks.now.items) _ c.args.part.now c.add_member.new.part c.args.table.now c.add_member.new.table
    c.in-Some.ensures.cases.0 (pushed c.args.tasks.now.items _ _ c.in_ok-push.ensures.items))
    c.add_member.ensures
