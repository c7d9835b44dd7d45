use Rattle.rules_document.proofs.Meeting.{others_more}
use Rattle.rules_document.proofs.met_fragments.meet_other.Goals as goal

pub returns-clause-met : goal.returns-clause-met
returns-clause-met g c =
    let f = c.args.fragment.now in others_more (f.item.name.item, f.span.start, f.span.end) c.args.others.now c.insert.new.self c.in_ok-first.ensures.updates
