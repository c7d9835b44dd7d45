use Rattle.std.proofs.Common.{◌*◌, ◌∷◌, [], arith, false, subst}
use Rattle.std.specs.Bool.{OnTrue}
use Rattle.merge_certificates.specs.Quiet.{AreQuiet}
use Rattle.std.proofs.lemmas.Result.{on_ok_weaker}
use Rattle.merge_sets.specs.World.{world}
use Rattle.merge_search.proofs.Adding.{all_full, all_plus}
use Rattle.merge_search.proofs.Work.{did_full, did_then, did_map}
use Rattle.merge_search.proofs.Costs.{spends_none}
use Rattle.merge_tops.proofs.Opening.{opens_none, opens_then}
use Rattle.merge_search.specs.Reports.{AddsAll, AtPlaces}
use Rattle.merge_search.proofs.Steps.{did_before}
use Rattle.merge_tops.specs.Tops.{AtTop, Top}
use Rattle.merge_search.specs.Weight.{weight}
use Rattle.merge_tops.specs.TopCosts.{set_cost, set_questions, top_cost}
use Rattle.merge_tops.proofs.Spends.{spends_asked, spends_then}
use Rattle.merge_tops.proofs.top.search_set.Goals as goal

pub returns : goal.returns
returns g c =
    let v = world g.J.Judge.judgement c.args.graph.now in
    let s = c.args.s in
    let asked = c.in_ok-ask_merged.ensures.counts in
    record {
      done = on_ok_weaker c.search_inner.result (λ d. did_before v false _ asked.keeps (did_map v _ _ (λ M h. h.0) (did_then v _ _ c.in_ok-compare_set.ensures.done d))) c.search_inner.ensures.done;
      real = on_ok_weaker c.search_inner.result
          (λ d. subst (λ zs. AddsAll v false (AtPlaces v s) (AtTop v s) zs c.search_inner.new.search.found.items) asked.keeps.found (all_plus v false _ _ _ (λ r z. z) c.in_ok-compare_set.ensures.real d))
          c.search_inner.ensures.real;
      spends = on_ok_weaker c.search_inner.result (λ p. spends_asked v _ _ _ _ _ _ (omega arith) asked (spends_then v _ _ _ _ _ c.in_ok-compare_set.ensures.spends p)) c.search_inner.ensures.spends;
      counts = on_ok_weaker c.search_inner.result (opens_then v _ _ _ _ _ c.in_ok-compare_set.ensures.counts) c.search_inner.ensures.counts;
    }

pub returns-then-branch-clause-done : goal.returns-then-branch-clause-done
returns-then-branch-clause-done g c =
    let v = world g.J.Judge.judgement c.args.graph.now in
    on_ok_weaker c.pass_set.result (λ d. did_before v false (λ M. Top v M c.args.s) c.in_ok-ask_merged.ensures.counts.keeps d) c.pass_set.ensures.done

pub returns-then-branch-clause-spends : goal.returns-then-branch-clause-spends
returns-then-branch-clause-spends g c =
    let v = world g.J.Judge.judgement c.args.graph.now in
    on_ok_weaker c.pass_set.result
    (λ p. spends_asked v (2 * set_questions v c.args.s) 0 (set_cost v c.args.graph.now.inner.items c.args.s) _ _ _ (omega arith) c.in_ok-ask_merged.ensures.counts p) c.pass_set.ensures.spends

pub returns-then-len-start-clause-done : goal.returns-then-len-start-clause-done
returns-then-len-start-clause-done g c =
    let v = world g.J.Judge.judgement c.args.graph.now in
    did_before v false (λ M. Top v M c.args.s) c.in_ok-ask_merged.ensures.counts.keeps c.in_ok-compare_set.ensures.done

pub returns-then-len-start-clause-spends : goal.returns-then-len-start-clause-spends
returns-then-len-start-clause-spends g c =
    let v = world g.J.Judge.judgement c.args.graph.now in
    spends_asked v (2 * set_questions v c.args.s) (top_cost v (weight v c.args.s)) (set_cost v c.args.graph.now.inner.items c.args.s) _ _ _ (omega arith)
    c.in_ok-ask_merged.ensures.counts c.in_ok-compare_set.ensures.spends

pub returns-then-is_full : goal.returns-then-is_full
returns-then-is_full g c =
    let v = world g.J.Judge.judgement c.args.graph.now in
    let full = c.if-is_full.ensures in
    record { done = did_full v _ c.args.search.now full; real = all_full v false _ _ _ full; spends = spends_none v _ c.args.search.now; counts = opens_none v _ c.args.counts.now }

pub pass_set-requires : goal.pass_set-requires
pass_set-requires g c = subst (λ b. OnTrue b (AreQuiet (world g.J.Judge.judgement c.args.graph.now) false (c.args.s ∷ []))) c.if-branch.true c.in_ok-ask_merged.ensures.merged
