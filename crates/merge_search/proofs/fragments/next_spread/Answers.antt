use Rattle.std.proofs.Common.{◌+◌, ◌<◌, ℕ, List, length, drop, get_or, arith, rules}
use Rattle.merge_search.specs.declared.task.Task.TheVariants.{Spreads}
use Rattle.merge_sets.specs.World.{world, spreads_of}
use Rattle.merge_search.specs.Tasks.{Meets, MeetsPartner, PartnerDone, AtPartner, AtPartners}
use Rattle.merge_sets.proofs.OneName.{in_list}
use Rattle.merge_search.proofs.Falls.{spread_falls}
use Rattle.merge_search.proofs.Costs.{pays_after}
use Rattle.merge_search.proofs.Leading.{leads_done, leads_next}
use Rattle.merge_search.proofs.Steps.{drop_end, drop_next, searches_none, searches_next}
use Rattle.merge_search.proofs.fragments.next_spread.Goals as goal

pub begin_spread-requires : goal.begin_spread-requires
begin_spread-requires g c =
    let v = world g.J.Judge.judgement c.args.graph.now in
    let less : c.args.k < length c.spreads-list.result.now = search rules in
    (spread_falls v c.args.s c.spreads-list.result.now c.args.k c.args.graph.now.falling c.spreads-list.ensures less).0

pub returns-then-k-list-clause-turns : goal.returns-then-k-list-clause-turns
returns-then-k-list-clause-turns g c =
    let v = world g.J.Judge.judgement c.args.graph.now in
    let e = c.args.e in
    let p = c.args.partner in
    leads_done v (Meets v (Spreads c.args.s p e c.args.k)) _
    (λ there. searches_none v e (PartnerDone v e p) (AtPartners v c.args.s p) _ c.args.search.now (drop_end _ (spreads_of v c.args.s) c.args.k c.spreads-list.ensures (search rules)))

pub returns-clause-turns : goal.returns-clause-turns
returns-clause-turns g c =
    let v = world g.J.Judge.judgement c.args.graph.now in
    let e = c.args.e in
    let s = c.args.s in
    let p = c.args.partner in
    let k = c.args.k in
    let list : List ℕ = c.spreads-list.result.now in
    let less : k < length list = search rules in
    let h : ℕ = get_or list k 0 in
    let all = spreads_of v s in
    leads_next v (MeetsPartner v e h p) (Meets v (Spreads s p e (k + 1))) (Meets v (Spreads s p e k)) _ _ _ _ c.args.search.now
    (λ t u one more there. searches_next v e (PartnerDone v e p) (AtPartners v s p) (AtPartner v p h) h (drop (k + 1) all) (drop k all) _ t u
    (drop_next list all k 0 c.spreads-list.ensures less) (λ r z. (h, in_list list all k 0 c.spreads-list.ensures less, z)) (one there) (more there))
    (c.in_ok-wait.ensures.waits v (λ none s there. searches_none v e (PartnerDone v e p) (AtPartners v c.args.s p) _ s (drop_end _ all (k + 1) c.spreads-list.ensures (omega (arith, none))))) c.in_ok-begin_spread.ensures.turns

pub returns-clause-pays : goal.returns-clause-pays
returns-clause-pays g c =
    let v = world g.J.Judge.judgement c.args.graph.now in
    pays_after v 0 0 _ _ _ _ _ (c.in_ok-wait.ensures.costs v) c.in_ok-begin_spread.ensures.pays
