use Rattle.std.proofs.Common.{◌+◌, ◌<◌, ◌≤◌, drop, length, arith, get_or, subst, sym}
use Rattle.merge_sets.proofs.OneName.{no_entry}
use Rattle.std.proofs.lemmas.Option.{slice_get-get_or}
use Rattle.merge_search.specs.declared.task.Task.TheVariants.{With}
use Rattle.merge_sets.specs.declared.node.Entry.{Entry}
use Rattle.merge_search.specs.declared.state.Search.{Search}
use Rattle.merge_sets.specs.World.{world}
use Rattle.merge_search.specs.Tasks.{Meets, MeetsFields, MeetsList}
use Rattle.merge_search.proofs.Leading.{leads_done, leads_next, leads_turn}
use Rattle.merge_search.proofs.Steps.{list_end, list_next}
use Rattle.merge_search.specs.Spending.{CostsMore, Pays, list_cost}
use Rattle.merge_search.proofs.Costs.{list_open, list_settled}
use Rattle.merge_search.proofs.fields.next_with.Goals as goal

pub returns-then-k-fields-clause-turns : goal.returns-then-k-fields-clause-turns
returns-then-k-fields-clause-turns g c =
    let v = world g.J.Judge.judgement c.args.graph.now in
    let e = c.args.e in
    let a = c.args.a in
    let u : Search = c.settle_from.new.search in
    let s : Search = c.args.search.now in
    let fields = c.group-fields.result.now in
    leads_done v (Meets v (With a c.args.j e c.args.n)) _ (subst (λ xs. MeetsList v e a xs c.args.n s u) c.group-fields.ensures (c.in_ok-k.ensures.settled u
    (list_end v e a fields c.in_ok-k.k u (omega arith))))

pub begin_below-requires : goal.begin_below-requires
begin_below-requires g c =
    let fields = c.group-fields.result.now in
    let k = c.in_ok-k.k in
    let less : k < length fields = omega arith in
    c.in_ok-k.ensures.open (get_or fields k no_entry) (slice_get-get_or fields k no_entry less)

pub returns-clause-turns : goal.returns-clause-turns
returns-clause-turns g c =
    let v = world g.J.Judge.judgement c.args.graph.now in
    let e = c.args.e in
    let a = c.args.a in
    let j = c.args.j in
    let k = c.in_ok-k.k in
    let fields = c.group-fields.result.now in
    let is = c.group-fields.ensures in
    let b : Entry = get_or fields k no_entry in
    let less : k < length fields = omega arith in
    let s : Search = c.args.search.now in
    let u : Search = c.settle_from.new.search in
    leads_turn v (MeetsList v e a fields k) (Meets v (With a j e c.args.n)) _ _ u s _ (λ t d. subst (λ xs. MeetsList v e a xs c.args.n s t) is (c.in_ok-k.ensures.settled t d))
    (leads_next v (MeetsFields v e a b) (Meets v (With a j e (k + 1))) (MeetsList v e a fields k) _ _ _ _ u
    (λ t x one more. list_next v e a fields k u t x less one (subst (λ xs. MeetsList v e a xs (k + 1) t x) (sym is) more))
    (c.in_ok-wait.ensures.waits v (λ none s. subst (λ xs. MeetsList v e a xs (k + 1) s s) is (list_end v e a fields (k + 1) s (omega (arith, none))))) c.in_ok-begin_below.ensures.turns)

pub returns-then-k-fields-clause-pays : goal.returns-then-k-fields-clause-pays
returns-then-k-fields-clause-pays g c =
    let v = world g.J.Judge.judgement c.args.graph.now in
    let a = c.args.a in
    let past : length c.group-fields.result.now ≤ c.in_ok-k.k = omega arith in
    subst (λ xs. Pays v (list_cost v a (drop c.args.n xs)) c.args.tasks.now.items c.args.tasks.now.items c.args.search.now c.settle_from.new.search) c.group-fields.ensures
    (list_settled v a c.group-fields.result.now c.args.n c.in_ok-k.k _ _ c.in_ok-k.ensures.counts past _)

pub returns-clause-pays : goal.returns-clause-pays
returns-clause-pays g c =
    let v = world g.J.Judge.judgement c.args.graph.now in
    let a = c.args.a in
    let k = c.in_ok-k.k in
    let fields = c.group-fields.result.now in
    let less : k < length fields = omega arith in
    subst (λ xs. Pays v (list_cost v a (drop c.args.n xs)) c.args.tasks.now.items c.begin_below.new.tasks.items c.args.search.now c.settle_from.new.search) c.group-fields.ensures
    (list_open v a fields c.args.n k _ _ c.in_ok-k.ensures.counts less _ _ _
    (subst (λ xs. CostsMore v (list_cost v a (drop (k + 1) xs)) c.args.tasks.now.items c.wait.new.tasks.items) (sym c.group-fields.ensures) (c.in_ok-wait.ensures.costs v)) c.in_ok-begin_below.ensures.costs)
