use Rattle.std.proofs.Common.{◌≡◌, ℕ, Some, slice_get, subst, sym}
use Rattle.graph_ways.proofs.Leading.{no_way, past_none}
use Rattle.graph_ways.proofs.way.way_back.Goals as goal

pub returns-then-root-graph-clause-none : goal.returns-then-root-graph-clause-none
returns-then-root-graph-clause-none c = λ _. past_none c.args.graph.now c.args.root c.if-root-graph.true

pub way_along-requires-clause-onward : goal.way_along-requires-clause-onward
way_along-requires-clause-onward c =
    let is = rw c.as_slice.ensures.value at c.in-Some.ensures in
    let from = (c.requires.sound.real c.args.root c.in-Some.first is).from in
    subst (λ (v : ℕ). slice_get c.args.ways.now.onward.items v ≡ Some (Some c.in-Some.first)) (sym from) is

pub returns-in-None-clause-none : goal.returns-in-None-clause-none
returns-in-None-clause-none c =
    λ _. no_way c.args.graph.now c.args.ways.now c.requires c.args.root (rw c.as_slice.ensures.value at c.in-None.ensures)

pub returns-in_ok-links-in-Some-clause-real : goal.returns-in_ok-links-in-Some-clause-real
returns-in_ok-links-in-Some-clause-real c =
    let is = rw c.as_slice.ensures.value at c.in-Some.ensures in
    rw (c.requires.sound.real c.args.root c.in-Some.first is).from at c.in_ok-links-in-Some.ensures
