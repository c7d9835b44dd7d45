use Rattle.merge_sets.specs.World.{world}
use Rattle.merge_certificates.proofs.Uniting.{all_joined, joined_whole}
use Rattle.merge_certificates.proofs.unions.unions_below.Goals as goal

pub returns-then-x-clause-joined : goal.returns-then-x-clause-joined
returns-then-x-clause-joined g c =
    joined_whole (world g.J.Judge.judgement c.args.graph.now) (g.J.Judge.exclusive_stays c.args.graph.now.judge) c.args.x c.args.fields.now c.add_union.new.unions.items c.in_ok-add_union.ensures.added

pub returns-clause-joined : goal.returns-clause-joined
returns-clause-joined g c =
    let told = c.in_ok-add_union-2.ensures in
    all_joined (world g.J.Judge.judgement c.args.graph.now) (g.J.Judge.exclusive_stays c.args.graph.now.judge) c.args.x c.in_ok-flag.flag c.args.fields.now
    c.add_by_objects.new.unions.items c.add_union-2.new.unions.items told.kept c.in_ok-flag.ensures.joined told.added

pub returns-clause-kept : goal.returns-clause-kept
returns-clause-kept g c u h = c.in_ok-add_union-2.ensures.kept u (c.in_ok-flag.ensures.kept u h)
