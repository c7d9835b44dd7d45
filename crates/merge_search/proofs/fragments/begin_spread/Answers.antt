use Rattle.std.proofs.Common.{arith}
use Rattle.std.proofs.lemmas.Result.{on_ok_weaker}
use Rattle.merge_search.specs.declared.task.Partner.TheVariants.{Own, First, Second, Each}
use Rattle.merge_sets.specs.World.{world, spreads_of}
use Rattle.merge_search.specs.Tasks.{Meets, MeetsSearch, MeetsFragments, MeetsPartner, PartnerDone, AtPartners}
use Rattle.merge_search.specs.declared.task.Task.TheVariants.{Spreads}
use Rattle.merge_search.proofs.Costs.{pays_waits}
use Rattle.merge_search.proofs.Leading.{leads_is, leads_turn}
use Rattle.merge_search.proofs.Steps.{drop_end, searches_none}
use Rattle.merge_search.proofs.fragments.begin_spread.Goals as goal

pub returns-in-Own-clause-turns : goal.returns-in-Own-clause-turns
returns-in-Own-clause-turns g c =
    let v = world g.J.Judge.judgement c.args.graph.now in
    let s = c.args.search.now in
    on_ok_weaker c.begin_search.result
    (λ go. leads_is v (MeetsPartner v c.args.e c.args.f) c.args.partner _ _ _ _ s c.in-Own.is
    (leads_turn v (MeetsSearch v c.args.e c.in-Own.i c.args.f) (MeetsPartner v c.args.e c.args.f (Own c.in-Own.i)) _ _ s s _ (λ t d there. d) go))
    c.begin_search.ensures.turns

pub returns-in-First-clause-turns : goal.returns-in-First-clause-turns
returns-in-First-clause-turns g c =
    let v = world g.J.Judge.judgement c.args.graph.now in
    let s = c.args.search.now in
    on_ok_weaker c.begin_fragments.result
    (λ go. leads_is v (MeetsPartner v c.args.e c.args.f) c.args.partner _ _ _ _ s c.in-First.is
    (leads_turn v (MeetsFragments v c.args.e c.in-First.g c.args.f) (MeetsPartner v c.args.e c.args.f (First c.in-First.g)) _ _ s s _ (λ t d there. d there c.requires) go))
    c.begin_fragments.ensures.turns

pub returns-in-Second-clause-turns : goal.returns-in-Second-clause-turns
returns-in-Second-clause-turns g c =
    let v = world g.J.Judge.judgement c.args.graph.now in
    let s = c.args.search.now in
    on_ok_weaker c.begin_fragments-in-Second.result
    (λ go. leads_is v (MeetsPartner v c.args.e c.args.f) c.args.partner _ _ _ _ s c.in-Second.is
    (leads_turn v (MeetsFragments v c.args.e c.args.f c.in-Second.g) (MeetsPartner v c.args.e c.args.f (Second c.in-Second.g)) _ _ s s _ (λ t d there. d c.requires there) go))
    c.begin_fragments-in-Second.ensures.turns

pub returns-in-Each-clause-turns : goal.returns-in-Each-clause-turns
returns-in-Each-clause-turns g c =
    let v = world g.J.Judge.judgement c.args.graph.now in
    let e = c.args.e in
    let f = c.args.f in
    let j = c.in-Each.j in
    let s = c.args.search.now in
    on_ok_weaker c.wait.result
    (λ go. leads_is v (MeetsPartner v e f) c.args.partner _ _ _ _ s c.in-Each.is
    (leads_turn v (Meets v (Spreads j (First f) e 0)) (MeetsPartner v e f (Each j)) _ _ s s _ (λ t d there. d c.requires)
    (go v (λ none t there. searches_none v e (PartnerDone v e (First f)) (AtPartners v j (First f)) _ t (drop_end _ (spreads_of v j) 0 c.spreads.ensures (omega (arith, none)))) s)))
    c.wait.ensures.waits

pub returns-in-Each-clause-pays : goal.returns-in-Each-clause-pays
returns-in-Each-clause-pays g c =
    let v = world g.J.Judge.judgement c.args.graph.now in
    on_ok_weaker c.wait.result (λ more. pays_waits v 0 _ _ _ (more v)) c.wait.ensures.costs
