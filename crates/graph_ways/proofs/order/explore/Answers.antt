use Rattle.std.proofs.Common.{Option, ◌∙◌, false, subst, true, ℕ}
use Rattle.fragment_graph.proofs.Lists.{set_keep, set_same}
use Rattle.graph_ways.specs.Leaving.{Ends}
use Rattle.graph_ways.proofs.Leaving.{begins}
use Rattle.graph_ways.proofs.order.explore.Goals as goal

pub loop-init : goal.loop-init
loop-init c =
    let s = c.args.search.now in
    let r = c.requires in
    let root = c.args.root in
    let rank = c.len-first.ensures ∙ s.order.nodes.ok.0 in
    record {
      ends = record { sound = rw rank (begins s.trail.items root r.idle.none r.new r.idle.sound) };
      keeps = λ v is. set_keep s.met.items root v false true true r.new (λ e. cc) is;
      begun = set_same s.met.items root false true r.new;
    }

pub step-requires-clause-at : goal.step-requires-clause-at
step-requires-clause-at c = subst (λ (o : Option ℕ). Ends c.args.graph.now o c.loop.search) c.in-Some.is c.loop.invariant.ends

pub loop-preserved : goal.loop-preserved
loop-preserved c =
    let e = c.in_ok-end-in-Some.ensures in
    record {
      ends = e.ends;
      keeps = λ v is. e.keeps v (c.loop.invariant.keeps v is);
      begun = e.keeps c.args.root c.loop.invariant.begun;
    }

pub returns-in-None-clause-idle : goal.returns-in-None-clause-idle
returns-in-None-clause-idle c = subst (λ (o : Option ℕ). Ends c.args.graph.now o c.loop.search) c.in-None.is c.loop.invariant.ends

pub returns-in-None-clause-begun : goal.returns-in-None-clause-begun
returns-in-None-clause-begun c = c.loop.invariant.begun

pub returns-in-None-clause-keeps : goal.returns-in-None-clause-keeps
returns-in-None-clause-keeps c = c.loop.invariant.keeps
