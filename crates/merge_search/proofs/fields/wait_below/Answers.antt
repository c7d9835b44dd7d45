use Rattle.std.proofs.Common.{arith, subst}
use Rattle.std.specs.List.{All}
use Rattle.merge_search.specs.declared.task.Task.TheVariants.{Own, Spreads}
use Rattle.merge_search.specs.declared.task.Partner.TheVariants as partner
use Rattle.merge_sets.specs.World.{world, spreads_of}
use Rattle.merge_search.specs.Work.{SearchDone, Pair}
use Rattle.merge_search.specs.Reports.{AtOwn, AtNamed}
use Rattle.merge_search.specs.Tasks.{AtPartners, Meets, MeetsBelow, NameDone}
use Rattle.merge_sets.specs.Graph.{firsts_at}
use Rattle.merge_sets.specs.Names.{HaveOwnNames}
use Rattle.merge_search.proofs.OwnNames.{sets_within}
use Rattle.merge_search.proofs.Leading.{waits_four}
use Rattle.merge_search.proofs.Steps.{drop_end, each_none, searches_none, below_whole}
use Rattle.merge_search.proofs.fields.wait_below.Goals as goal

pub returns-clause-waits : goal.returns-clause-waits
returns-clause-waits g c =
    let v = world g.J.Judge.judgement c.args.graph.now in
    let e = c.args.e in
    let i = c.args.i in
    let j = c.args.j in
    let firsts_are = c.first_of_names-firsts.ensures.is in
    waits_four v (Meets v (Own i j e 0)) (Meets v (Spreads j (partner.Own i) e 0)) (Meets v (Spreads i (partner.Own j) e 0)) (Meets v (Spreads i (partner.Each j) e 0)) (MeetsBelow v e i j) _ _ _ _ _
    (λ s t u x z own forth back both. below_whole v e i j s t u x z own (forth tt) (back tt) (both tt))
    (c.in_ok-wait-4.ensures.waits v (λ none s. each_none v e (NameDone v e i j) (AtOwn v i j) (λ f. AtNamed v i j f.response) _ s (drop_end _ (firsts_at v.sets i) 0 firsts_are (omega (arith, none)))))
    (c.in_ok-wait-3.ensures.waits v (λ none s there. searches_none v e (λ h M. SearchDone v M e i h) (AtPartners v j (partner.Own i)) _ s (drop_end _ (spreads_of v j) 0 c.spreads-right.ensures (omega (arith, none)))))
    (c.in_ok-wait-2.ensures.waits v (λ none s there. searches_none v e (λ h M. SearchDone v M e j h) (AtPartners v i (partner.Own j)) _ s (drop_end _ (spreads_of v i) 0 c.spreads-left.ensures (omega (arith, none)))))
    (c.in_ok-wait.ensures.waits v (λ none s there. searches_none v e (λ k M. All (λ h. Pair M e k h) (spreads_of v j)) (AtPartners v i (partner.Each j)) _ s (drop_end _ (spreads_of v i) 0 c.spreads-left.ensures (omega (arith, none)))))

pub returns-clause-costs : goal.returns-clause-costs
returns-clause-costs g c =
    let v = world g.J.Judge.judgement c.args.graph.now in
    let own = sets_within v c.args.graph.now.falling c.args.i c.args.j (firsts_at v.sets c.args.i) (subst HaveOwnNames c.first_of_names-firsts.ensures.is c.first_of_names-firsts.ensures.once) in
    record {
      most = omega (arith, own, (c.in_ok-wait.ensures.costs v).most, (c.in_ok-wait-2.ensures.costs v).most, (c.in_ok-wait-3.ensures.costs v).most, (c.in_ok-wait-4.ensures.costs v).most);
    }
