use Rattle.std.proofs.Common.{rules, ◌≡◌, ◌<◌, ◌∙◌, [], ap, arith, length, refl, subst, sym}
use Rattle.std.specs.List.{All}
use Rattle.std.proofs.lemmas.Grind.{common_steps}
use Rattle.std.proofs.lemmas.List.Elements.{All-weaker}
use Rattle.merge_sets.specs.World.{world, set_of, spreads_of}
use Rattle.merge_sets.specs.declared.opening.Opening.{Opening}
use Rattle.merge_search.specs.Opened.{OpensEach}
use Rattle.merge_search.proofs.Asking.{few_from, from_end, from_next, from_start, less_from}
use Rattle.merge_search.proofs.opening.open_from.Goals as goal

pub loop-f-init : goal.loop-f-init
loop-f-init g c =
    from_start (world g.J.Judge.judgement c.args.graph.now) c.args.e c.args.i c.args.g c.close_all.new.opening _ c.args.search.now _ c.requires.fragment
    c.close_all.ensures.seen c.close_all.ensures.order c.close_all.ensures.waiting c.in_ok-open_new.ensures

pub open_each-requires-clause-fragments : goal.open_each-requires-clause-fragments
open_each-requires-clause-fragments g c =
    let v = world g.J.Judge.judgement c.args.graph.now in
    let n = length c.args.graph.now.fragments.items in
    let f = c.in-Some.f in
    let list = spreads_of v (set_of v f) in
    let there : All (λ k. k < n) list = All-weaker (λ k. (k < n) × (set_of v k < set_of v f)) (λ k. k < n) (λ k z. z.0) list (c.args.graph.now.falling (set_of v f)).1 in
    subst (λ zs. All (λ k. k < n) zs) (sym (c.spreads.ensures ∙ ap (λ s. spreads_of v s) c.set.ensures)) there

pub loop-f-smaller : goal.loop-f-smaller
loop-f-smaller g c =
    let v = world g.J.Judge.judgement c.args.graph.now in
    let o = c.loop-f.opening in
    let m : Opening = record { seen = o.seen; order = o.order; waiting = c.pop.new.self } in
    let each : OpensEach v c.args.e c.args.i (spreads_of v (set_of v c.in-Some.f)) m c.open_each.new.opening c.loop-f.search c.open_each.new.search =
    subst (λ zs. OpensEach v c.args.e c.args.i zs m c.open_each.new.opening c.loop-f.search c.open_each.new.search) (c.spreads.ensures ∙ ap (λ s. spreads_of v s) c.set.ensures) c.in_ok-open_each.ensures in
    let next = from_next v c.args.e c.args.i c.args.g c.in-Some.f o m c.open_each.new.opening c.args.search.now c.loop-f.search c.open_each.new.search c.args.graph.now.falling c.loop-f.invariant refl refl
    c.in-Some.ensures.items each in
    less_from v c.args.e c.args.i c.args.g c.in-Some.f o m c.open_each.new.opening c.loop-f.search c.open_each.new.search refl c.in-Some.ensures.items each
    (few_from v c.args.e c.args.i c.args.g c.open_each.new.opening c.args.search.now c.open_each.new.search next)

pub loop-f-preserved : goal.loop-f-preserved
loop-f-preserved g c =
    let v = world g.J.Judge.judgement c.args.graph.now in
    let o = c.loop-f.opening in
    let m : Opening = record { seen = o.seen; order = o.order; waiting = c.pop.new.self } in
    let each : OpensEach v c.args.e c.args.i (spreads_of v (set_of v c.in-Some.f)) m c.open_each.new.opening c.loop-f.search c.open_each.new.search =
    subst (λ zs. OpensEach v c.args.e c.args.i zs m c.open_each.new.opening c.loop-f.search c.open_each.new.search) (c.spreads.ensures ∙ ap (λ s. spreads_of v s) c.set.ensures) c.in_ok-open_each.ensures in
    from_next v c.args.e c.args.i c.args.g c.in-Some.f o m c.open_each.new.opening c.args.search.now c.loop-f.search c.open_each.new.search c.args.graph.now.falling c.loop-f.invariant refl refl
    c.in-Some.ensures.items each

pub returns : goal.returns
returns g c =
    let none : c.loop-f.opening.waiting.items ≡ [] = first_of (search rules, grind (arith, common_steps)) in
    from_end (world g.J.Judge.judgement c.args.graph.now) c.args.e c.args.i c.args.g c.loop-f.opening c.args.search.now c.loop-f.search none c.loop-f.invariant
