use Rattle.std.proofs.Common.{◌≡◌, ◌+◌, ◌*◌, arith, ◌<◌, ◌∷◌, ◌∙◌, ap, sym, ℕ, length, drop, get_or, rules, refl}
use Rattle.std.proofs.lemmas.Result.{on_ok_weaker}
use Rattle.std.proofs.lemmas.List.Elements.{All-contains}
use Rattle.std.specs.List.{Contains}
use Rattle.merge_search.specs.declared.task.Task.TheVariants.{Opened}
use Rattle.merge_sets.specs.World.{world, set_of}
use Rattle.merge_sets.specs.Opening.{Reaches}
use Rattle.merge_search.specs.Work.{OwnPairs}
use Rattle.merge_search.specs.Reports.{AtSearch, AtOwn}
use Rattle.merge_search.specs.Tasks.{Meets, MeetsOne}
use Rattle.merge_search.proofs.Rows.{row_opened}
use Rattle.std.specs.Prelude.{sum_by}
use Rattle.std.proofs.lemmas.List.Sums.{sum_by-drop_more}
use Rattle.merge_search.specs.Spending.{task_cost}
use Rattle.merge_search.specs.Weight.{fragment_weight, weight}
use Rattle.merge_search.proofs.Costs.{costs_pushed, on_ok_ok, pays_kept}
use Rattle.merge_search.proofs.Leading.{leads_done, leads_next, waits_pushed}
use Rattle.merge_search.proofs.Steps.{drop_end, drop_next, opened_end, searches_next}
use Rattle.merge_search.proofs.fragments.next_opened.Goals as goal

pub returns-then-k-len-clause-turns : goal.returns-then-k-len-clause-turns
returns-then-k-len-clause-turns g c =
    let v = world g.J.Judge.judgement c.args.graph.now in
    let e = c.args.e in
    let i = c.args.i in
    let hs = c.args.opening.order.items in
    on_ok_weaker c.put_opening.result
    (λ k. leads_done v (Meets v (Opened i c.args.g e c.args.opening c.args.k)) _
    (λ reached. opened_end v e (λ h M. OwnPairs v M e i (set_of v h)) (AtSearch v i c.args.g) _ _ _ (drop_end hs hs c.args.k refl (search rules)) k))
    c.put_opening.ensures.keeps

pub returns-then-k-len-clause-pays : goal.returns-then-k-len-clause-pays
returns-then-k-len-clause-pays g c =
    let v = world g.J.Judge.judgement c.args.graph.now in
    on_ok_ok c.put_opening.result (λ keeps counts. pays_kept v (task_cost v (Opened c.args.i c.args.g c.args.e c.args.opening c.args.k)) c.args.tasks.now.items _ _ keeps counts)
    c.put_opening.ensures.keeps c.put_opening.ensures.counts

pub returns-clause-turns : goal.returns-clause-turns
returns-clause-turns g c =
    let v = world g.J.Judge.judgement c.args.graph.now in
    let e = c.args.e in
    let i = c.args.i in
    let k = c.args.k in
    let hs = c.args.opening.order.items in
    let less : k < length hs = search rules in
    let h : ℕ = c.index-h.result.now in
    let is : h ≡ get_or hs k h = search rules in
    let at : Contains hs h = (k, less, sym is) in
    leads_next v (MeetsOne v e i h) (Meets v (Opened i c.args.g e c.args.opening (k + 1))) (Meets v (Opened i c.args.g e c.args.opening k)) _ _ _ _ c.args.search.now
    (λ t u one more reached. searches_next v e (λ h M. OwnPairs v M e i (set_of v h)) (AtSearch v i c.args.g) (AtOwn v i (set_of v h)) h (drop (k + 1) hs) (drop k hs) _ t u
    (drop_next hs hs k h refl less ∙ ap (λ x. x ∷ drop (k + 1) hs) (sym is))
    (row_opened v i c.args.g h (All-contains (Reaches v c.args.g) hs h reached at)) one (more reached))
    (waits_pushed v (Opened i c.args.g e c.args.opening (k + 1)) _ _ c.in_ok-push.ensures.items) c.in_ok-begin_one.ensures.turns

pub returns-clause-pays : goal.returns-clause-pays
returns-clause-pays g c =
    let v = world g.J.Judge.judgement c.args.graph.now in
    let i = c.args.i in
    let k = c.args.k in
    let hs = c.args.opening.order.items in
    let less : k < length hs = search rules in
    let h : ℕ = c.index-h.result.now in
    let is : h ≡ get_or hs k h = search rules in
    let next : weight v i * sum_by (fragment_weight v) (drop k hs) ≡ weight v i * fragment_weight v h + weight v i * sum_by (fragment_weight v) (drop (k + 1) hs) =
    ap (λ (n : ℕ). weight v i * n) (sum_by-drop_more (fragment_weight v) hs k h less ∙ ap (λ (x : ℕ). fragment_weight v x + sum_by (fragment_weight v) (drop (k + 1) hs)) (sym is))
    ∙ spread (weight v i) (fragment_weight v h) (sum_by (fragment_weight v) (drop (k + 1) hs)) in
    record { paid = omega (arith, next, (costs_pushed v (Opened i c.args.g c.args.e c.args.opening (k + 1)) _ _ c.in_ok-push.ensures.items).most, c.in_ok-begin_one.ensures.pays.paid) }
  where
    spread : (x y z : ℕ) → x * (y + z) ≡ x * y + x * z
    spread x y z = omega arith
