use Rattle.std.proofs.Common.{◌+◌, ◌<◌, length, arith, drop, get_or, rules}
use Rattle.merge_search.specs.declared.task.Task.TheVariants.{Own}
use Rattle.merge_sets.specs.declared.node.Entry.{Entry}
use Rattle.merge_sets.specs.World.{world}
use Rattle.merge_search.specs.Reports.{AtNamed, AtOwn}
use Rattle.merge_search.specs.Tasks.{Meets, MeetsNamed, NameDone}
use Rattle.merge_sets.specs.Graph.{firsts_at}
use Rattle.merge_sets.proofs.OneName.{no_entry}
use Rattle.merge_search.proofs.Costs.{costs_next}
use Rattle.merge_search.proofs.Leading.{leads_done, leads_next}
use Rattle.merge_search.proofs.Rows.{row_own}
use Rattle.merge_search.proofs.Steps.{drop_end, drop_next, each_none, each_next}
use Rattle.merge_search.proofs.fields.next_own.Goals as goal

pub returns-then-next-firsts-clause-turns : goal.returns-then-next-firsts-clause-turns
returns-then-next-firsts-clause-turns g c =
    let v = world g.J.Judge.judgement c.args.graph.now in
    let e = c.args.e in
    let i = c.args.i in
    let j = c.args.j in
    let s = c.args.search.now in
    leads_done v (Meets v (Own i j e c.args.k)) _ (c.next_shared-next.ensures.meets e s s
    (each_none v e (NameDone v e i j) (AtOwn v i j) (λ f. AtNamed v i j f.response) _ s (drop_end _ (firsts_at v.sets i) c.next_shared-next.result c.first_of_names-firsts.ensures.is (search rules))))

pub returns-clause-turns : goal.returns-clause-turns
returns-clause-turns g c =
    let v = world g.J.Judge.judgement c.args.graph.now in
    let e = c.args.e in
    let i = c.args.i in
    let j = c.args.j in
    let k = c.next_shared-next.result in
    let s = c.args.search.now in
    let less : k < length c.first_of_names-firsts.result.now = search rules in
    let f : Entry = get_or c.first_of_names-firsts.result.now k no_entry in
    let firsts = firsts_at v.sets i in
    leads_next v (MeetsNamed v e i j f.response) (Meets v (Own i j e (k + 1))) (Meets v (Own i j e c.args.k)) _ _ _ _ s
    (λ t u one more. c.next_shared-next.ensures.meets e s u (each_next v e (NameDone v e i j) (AtOwn v i j) (AtNamed v i j f.response) (λ f. AtNamed v i j f.response) f (drop (k + 1) firsts) (drop k firsts) s t u
    (drop_next c.first_of_names-firsts.result.now firsts k no_entry c.first_of_names-firsts.ensures.is less)
    (row_own v i j f.response) one more))
    (c.in_ok-wait.ensures.waits v (λ none s. each_none v e (NameDone v e i j) (AtOwn v i j) (λ f. AtNamed v i j f.response) _ s (drop_end _ firsts (k + 1) c.first_of_names-firsts.ensures.is (omega (arith, none))))) c.in_ok-next_named.ensures.turns

pub returns-clause-pays : goal.returns-clause-pays
returns-clause-pays g c =
    let v = world g.J.Judge.judgement c.args.graph.now in
    let k = c.next_shared-next.result in
    let less : k < length c.first_of_names-firsts.result.now = search rules in
    let next = costs_next v c.args.i c.args.j c.first_of_names-firsts.result.now (firsts_at v.sets c.args.i) k c.first_of_names-firsts.ensures.is less in
    record { paid = omega (arith, next, c.next_shared-next.ensures.costs c.args.e, (c.in_ok-wait.ensures.costs v).most, c.in_ok-next_named.ensures.pays.paid) }
