use Rattle.std.proofs.Common.{arith, inl, inr}
use Rattle.std.proofs.lemmas.Result.{on_ok_weaker}
use Rattle.merge_sets.specs.World.{world}
use Rattle.merge_search.specs.Work.{shallow, deep}
use Rattle.merge_search.specs.Tasks.{MeetsFields, MeetsNested}
use Rattle.merge_search.proofs.Work.{did_none, did_map}
use Rattle.merge_search.proofs.Adding.{adds_none, all_quiet}
use Rattle.merge_search.proofs.Leading.{leads_done, leads_turn}
use Rattle.merge_search.proofs.Spent.{below_product}
use Rattle.merge_search.proofs.fields.begin_below.Goals as goal

pub returns-in-Some-Some-clause-turns : goal.returns-in-Some-Some-clause-turns
returns-in-Some-Some-clause-turns g c =
    let v = world g.J.Judge.judgement c.args.graph.now in
    let e = c.args.e in
    let a = c.args.a in
    let b = c.args.b in
    let s = c.args.search.now in
    on_ok_weaker c.begin_nested.result
    (λ go. leads_turn v (MeetsNested v e a b _ _) (MeetsFields v e a b) _ _ s s s
    (λ t d. record {
      done = did_map v _ _ (λ M z. deep c.requires c.in-Some-Some.is-0 c.in-Some-Some.is-1 z.0 z.1) d.done;
      real = all_quiet v e a b c.requires (d.real c.requires c.in-Some-Some.is-0 c.in-Some-Some.is-1);
    }) go)
    c.begin_nested.ensures.turns

pub returns-in_default-clause-turns : goal.returns-in_default-clause-turns
returns-in_default-clause-turns g c =
    let v = world g.J.Judge.judgement c.args.graph.now in
    let e = c.args.e in
    let a = c.args.a in
    let b = c.args.b in
    leads_done v (MeetsFields v e a b) _ (record {
      done = did_none v _ c.args.search.now (λ M grown. shallow c.requires (inr c.in_default.is-1));
      real = all_quiet v e a b c.requires (adds_none v e _ _);
    })

pub returns-in_default-2-clause-turns : goal.returns-in_default-2-clause-turns
returns-in_default-2-clause-turns g c =
    let v = world g.J.Judge.judgement c.args.graph.now in
    let e = c.args.e in
    let a = c.args.a in
    let b = c.args.b in
    leads_done v (MeetsFields v e a b) _ (record {
      done = did_none v _ c.args.search.now (λ M grown. shallow c.requires (inl c.in_default.is-0));
      real = all_quiet v e a b c.requires (adds_none v e _ _);
    })

pub returns-in-Some-Some-clause-costs : goal.returns-in-Some-Some-clause-costs
returns-in-Some-Some-clause-costs g c =
    let v = world g.J.Judge.judgement c.args.graph.now in
    on_ok_weaker c.begin_nested.result
    (λ more. record { most = omega (arith, more.most, below_product v c.args.graph.now.falling c.args.a c.args.b _ _ c.in-Some-Some.is-0 c.in-Some-Some.is-1) })
    c.begin_nested.ensures.costs
