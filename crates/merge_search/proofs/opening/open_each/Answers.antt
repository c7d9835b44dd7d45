use Rattle.std.proofs.Common.{◌<◌, length, subst}
use Rattle.std.proofs.lemmas.List.{take_all}
use Rattle.std.proofs.lemmas.List.Elements.{All-get_or}
use Rattle.merge_sets.specs.World.{world}
use Rattle.merge_search.specs.Opened.{OpensEach}
use Rattle.merge_search.proofs.Asking.{each_more, each_none}
use Rattle.merge_search.proofs.opening.open_each.Goals as goal

pub loop-f-init : goal.loop-f-init
loop-f-init g c =
    let v = world g.J.Judge.judgement c.args.graph.now in
    each_none v c.args.e c.args.i c.args.fragments.now c.args.opening.now c.args.search.now

pub open_new-requires : goal.open_new-requires
open_new-requires g c =
    let n = length c.args.graph.now.fragments.items in
    record {
      set = c.requires.set;
      fragment = All-get_or (λ f. f < n) c.args.fragments.now c.loop-f.f-index 0 c.loop-f-test.true c.requires.fragments;
    }

pub loop-f-preserved : goal.loop-f-preserved
loop-f-preserved g c =
    let v = world g.J.Judge.judgement c.args.graph.now in
    each_more v c.args.e c.args.i c.args.fragments.now c.loop-f.f-index 0 c.args.opening.now _ _ c.args.search.now _ _ c.loop-f-test.true c.loop-f.invariant c.in_ok-open_new.ensures

pub returns : goal.returns
returns g c =
    let v = world g.J.Judge.judgement c.args.graph.now in
    let e = c.args.e in
    let i = c.args.i in
    let before = c.args.opening.now in
    let s = c.args.search.now in
    let whole = take_all c.loop-f.f-index c.args.fragments.now c.loop-f-test.false in
    subst (λ zs. OpensEach v e i zs before c.loop-f.opening s c.loop-f.search) whole c.loop-f.invariant
