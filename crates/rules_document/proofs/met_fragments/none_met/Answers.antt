use Rattle.std.proofs.Common.{◌∙◌}
use Rattle.rules_document.proofs.FirstMeeting.{nothing_kept, nothing_met}
use Rattle.rules_document.proofs.Meeting.{none_other}
use Rattle.rules_document.proofs.met_fragments.none_met.Goals as goal

pub returns-clause-none : goal.returns-clause-none
returns-clause-none c =
    nothing_met c.args.numbers.now (record { firsts = c.in_ok-firsts.firsts; others = c.new.result }) (c.in_ok-firsts.ensures.len ∙ c.name_count.ensures) c.in_ok-firsts.ensures.none
    (none_other c.new.result c.new.ensures.empty)

pub returns-clause-kept : goal.returns-clause-kept
returns-clause-kept c =
    nothing_kept c.args.numbers.now (record { firsts = c.in_ok-firsts.firsts; others = c.new.result }) (c.in_ok-firsts.ensures.len ∙ c.name_count.ensures) c.in_ok-firsts.ensures.none
    (none_other c.new.result c.new.ensures.empty)
