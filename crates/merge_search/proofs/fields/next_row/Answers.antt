use Rattle.std.proofs.Common.{◌≡◌, ◌+◌, ◌<◌, ◌≤◌, arith, drop, length, get_or, slice_get, Some, subst, sym}
use Rattle.merge_sets.proofs.OneName.{no_entry}
use Rattle.std.proofs.lemmas.Option.{slice_get-get_or}
use Rattle.merge_search.specs.declared.task.Task.TheVariants.{Listed, Rows}
use Rattle.merge_sets.specs.declared.node.Entry.{Entry}
use Rattle.merge_certificates.specs.TwoSets.{rights_of}
use Rattle.merge_sets.specs.World.{world}
use Rattle.merge_search.specs.Tasks.{Meets, MeetsBoth}
use Rattle.merge_search.specs.Spending.{list_cost, pair_cost, rows_cost}
use Rattle.merge_search.specs.declared.state.Search.{Search}
use Rattle.merge_search.proofs.Costs.{costs_pushed, credit_same, rows_next}
use Rattle.merge_search.proofs.Leading.{leads_done, leads_next, leads_turn, waits_pushed}
use Rattle.merge_search.proofs.Steps.{both_end, both_kept, both_next, others_whole}
use Rattle.merge_search.proofs.fields.next_row.Goals as goal

pub returns-then-k-left-clause-turns : goal.returns-then-k-left-clause-turns
returns-then-k-left-clause-turns g c =
    let v = world g.J.Judge.judgement c.args.graph.now in
    let rows = c.args.rows in
    let left = c.as_slice-left.result.now in
    leads_done v (Meets v (Rows rows c.args.e c.args.k)) _ (λ knows.
    subst (λ xs. MeetsBoth v c.args.e xs (rights_of rows) c.args.k c.args.search.now c.args.search.now) c.as_slice-left.ensures.value
    (both_end v c.args.e left (rights_of rows) c.args.k c.args.search.now (omega arith)))

pub returns-clause-turns : goal.returns-clause-turns
returns-clause-turns g c =
    let v = world g.J.Judge.judgement c.args.graph.now in
    let e = c.args.e in
    let k = c.args.k in
    let rows = c.args.rows in
    let rights = rights_of rows in
    let left = c.as_slice-left.result.now in
    let is = c.as_slice-left.ensures.value in
    let less : k < length left = omega arith in
    let a : Entry = get_or left k no_entry in
    let s = c.args.search.now in
    let m : Search = c.ask_others.new.search in
    leads_turn v (Meets v (Rows rows e k)) (Meets v (Rows rows e k)) _ _ m s _ (λ t d knows. both_kept v e rows.left.items rights k s m t c.in_ok-others.ensures.counts.keeps (d knows))
    (leads_next v (Meets v (Listed a c.in_ok-others.others e 0)) (Meets v (Rows rows e (k + 1))) (Meets v (Rows rows e k)) _ _ _ _ m
    (λ t u one more knows.
    let at : slice_get rows.left.items k ≡ Some a = subst (λ xs. slice_get xs k ≡ Some a) is (slice_get-get_or left k no_entry less) in
    let row = others_whole v e a rights c.in_ok-others.others.items m t (c.in_ok-others.ensures.others a knows at) one in
    subst (λ xs. MeetsBoth v e xs rights k m u) is
    (both_next v e left rights k m t u less row (subst (λ xs. MeetsBoth v e xs rights (k + 1) t u) (sym is) (more knows))))
    (waits_pushed v (Rows rows e (k + 1)) _ _ c.in_ok-push.ensures.items) c.in_ok-next_listed.ensures.turns)

pub returns-clause-pays : goal.returns-clause-pays
returns-clause-pays g c =
    let v = world g.J.Judge.judgement c.args.graph.now in
    let k = c.args.k in
    let rows = c.args.rows in
    let rights = rights_of rows in
    let others = c.in_ok-others.others.items in
    let left = c.as_slice-left.result.now in
    let is = c.as_slice-left.ensures.value in
    let less : k < length left = omega arith in
    let a : Entry = get_or left k no_entry in
    let counts = c.in_ok-others.ensures.counts in
    let one : list_cost v a others ≤ list_cost v a rights = c.in_ok-others.ensures.once (pair_cost v a) in
    let next = subst (λ xs. rows_cost v (drop k xs) rights ≡ length rights + list_cost v a rights + rows_cost v (drop (k + 1) xs) rights) is (rows_next v left rights k less) in
    record {
      paid = omega (
        arith,
        one,
        next,
        counts.judged,
        credit_same v c.args.search.now c.ask_others.new.search counts.keeps.pairs counts.keeps.searched counts.keeps.repeated,
        (costs_pushed v (Rows rows c.args.e (k + 1)) _ _ c.in_ok-push.ensures.items).most,
        c.in_ok-next_listed.ensures.pays.paid,
      );
    }
