use Rattle.merge_sets.specs.World.{world}
use Rattle.merge_sets.proofs.Laws.{on_true_weaker}
use Rattle.merge_certificates.proofs.Merged.{fields_below}
use Rattle.merge_certificates.proofs.clear.are_quiet_below.Goals as goal

pub returns-clause-clear : goal.returns-clause-clear
returns-clause-clear g c =
    let v = world g.J.Judge.judgement c.args.graph.now in
    on_true_weaker c.in_ok-is_quiet.is_quiet
    (λ quiet. fields_below v c.args.e c.args.fields.now c.unions_below.new.unions.items c.in_ok-unions_below.ensures.joined quiet)
    c.in_ok-is_quiet.ensures.quiet
