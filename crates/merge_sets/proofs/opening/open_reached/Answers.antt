use Rattle.std.proofs.Common.{rules, ◌≡◌, [], refl, length, arith}
use Rattle.std.proofs.lemmas.Grind.{common_steps}
use Rattle.merge_sets.specs.World.{world}
use Rattle.merge_sets.specs.declared.opening.Opening.{Opening}
use Rattle.merge_sets.proofs.Opened.{sound_start, sound_gained, opens_end, few_open, less_left}
use Rattle.merge_sets.proofs.opening.open_reached.Goals as goal

pub loop-f-init : goal.loop-f-init
loop-f-init g c = sound_start (world g.J.Judge.judgement c.args.graph.now) c.args.starts.now c.close_all.new.opening _ c.requires c.close_all.ensures.seen c.close_all.ensures.order c.close_all.ensures.waiting c.in_ok-open_all.ensures

pub loop-f-preserved : goal.loop-f-preserved
loop-f-preserved g c =
    let v = world g.J.Judge.judgement c.args.graph.now in
    let s = c.loop-f.opening in
    let m : Opening = record { seen = s.seen; order = s.order; waiting = c.pop.new.self } in
    sound_gained v c.args.starts.now c.in-Some.f s m c.follow.new.opening c.args.graph.now.falling c.loop-f.invariant refl refl c.in-Some.ensures.items c.in_ok-follow.ensures

pub loop-f-smaller : goal.loop-f-smaller
loop-f-smaller g c =
    let v = world g.J.Judge.judgement c.args.graph.now in
    let s = c.loop-f.opening in
    let m : Opening = record { seen = s.seen; order = s.order; waiting = c.pop.new.self } in
    let next = sound_gained v c.args.starts.now c.in-Some.f s m c.follow.new.opening c.args.graph.now.falling c.loop-f.invariant refl refl c.in-Some.ensures.items c.in_ok-follow.ensures in
    less_left v (length v.fragments) c.in-Some.f _ _ s m c.follow.new.opening refl c.in-Some.ensures.items c.in_ok-follow.ensures (few_open v c.args.starts.now c.follow.new.opening next)

pub returns : goal.returns
returns g c =
    let none : c.loop-f.opening.waiting.items ≡ [] = first_of (search rules, grind (arith, common_steps)) in
    opens_end (world g.J.Judge.judgement c.args.graph.now) c.args.starts.now c.loop-f.opening c.loop-f.invariant none
