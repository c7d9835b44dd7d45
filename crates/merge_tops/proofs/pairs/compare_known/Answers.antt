use Rattle.std.proofs.Common.{◌*◌, ◌-◌, ap, length, take, ◌+◌, drop, get_or, sym, subst, arith, false}
use Rattle.std.specs.Bool.{OnTrue}
use Rattle.std.specs.List.{All}
use Rattle.std.proofs.lemmas.Option.{slice_get-get_or}
use Rattle.merge_sets.specs.Clear.{AreOthers, IsSumWithin}
use Rattle.merge_sets.specs.World.{world}
use Rattle.merge_search.specs.Work.{Done}
use Rattle.merge_sets.specs.Kinds.{NeverFailsWith}
use Rattle.merge_search.specs.Reports.{AddsAll, AtRest}
use Rattle.merge_search.proofs.Adding.{all_begin, all_next, all_told, all_change}
use Rattle.merge_sets.proofs.InOrder.{rest_is}
use Rattle.merge_tops.proofs.Order.{row_rest, tell_rest, rest_all}
use Rattle.merge_certificates.proofs.KindNumbers.{rows_after, rows_agree}
use Rattle.merge_sets.proofs.OneName.{no_entry}
use Rattle.merge_search.proofs.Steps.{did_before}
use Rattle.merge_search.proofs.Work.{did_none, did_map, did_next}
use Rattle.merge_search.specs.Weight.{field_weight, fields_weight}
use Rattle.merge_tops.specs.TopCosts.{later_cost}
use Rattle.merge_tops.proofs.Spends.{but_end, but_next, but_start, later_next}
use Rattle.merge_tops.proofs.pairs.compare_known.Goals as goal

pub compare_others-requires-clause-clear : goal.compare_others-requires-clause-clear
compare_others-requires-clause-clear g c =
    let j = g.J.Judge.judgement c.args.graph.now.judge in
    let xs = c.args.fields.now in
    let k = c.loop-k.k in
    subst (λ ys. OnTrue c.contains-is_clear.result (NeverFailsWith j false (get_or xs k no_entry) ys)) (sym (rest_is xs (k + 1)))
    (rows_after j false xs c.args.clear.now k c.loop-k-test.true c.requires.clear c.contains-is_clear.result c.contains-is_clear.ensures)

pub ask_later-requires-clause-agree : goal.ask_later-requires-clause-agree
ask_later-requires-clause-agree g c =
    let j = g.J.Judge.judgement c.args.graph.now.judge in
    rows_agree j false c.args.fields.now c.args.kinds.now.numbers.items c.args.clear.now c.loop-k.k c.requires.clear c.contains-is_clear.result c.contains-is_clear.ensures

pub loop-k-init : goal.loop-k-init
loop-k-init g c =
    let v = world g.J.Judge.judgement c.args.graph.now in
    (did_none v _ c.args.search.now (λ M z i l. absurd (omega (arith, l))), all_begin v false _ (λ m. AtRest (get_or c.args.fields.now m no_entry) (drop (m + 1) c.args.fields.now)) _, but_start v (later_cost v c.args.fields.now) (length c.args.fields.now) c.args.search.now)

pub loop-k-preserved : goal.loop-k-preserved
loop-k-preserved g c =
    let v = world g.J.Judge.judgement c.args.graph.now in
    let xs = c.args.fields.now in
    let k = c.loop-k.k in
    let x = get_or xs k no_entry in
    let ys = drop (k + 1) xs in
    let is = rest_is xs (k + 1) in
    let asked = c.in_ok-others.ensures.counts in
    let done = did_map v _ _ (λ M z. subst (λ zs. All (Done v M false x) zs) is z) c.in_ok-compare_others.ensures.done in
    let real = all_change v false _ (AtRest x ys) _ (AtRest x ys) (λ r z. subst (λ zs. AtRest x zs r) is z) (λ r z. subst (λ zs. AtRest x zs r) (sym is) z) c.in_ok-compare_others.ensures.real in (
      did_next v (λ i M. All (Done v M false (get_or xs i no_entry)) (drop (i + 1) xs)) k c.loop-k.invariant.0 (did_before v false _ asked.keeps done),
      all_next v false _ _ (λ m. AtRest (get_or xs m no_entry) (drop (m + 1) xs)) k (row_rest xs k c.loop-k-test.true) c.loop-k.invariant.1
          (subst (λ zs. AddsAll v false (AtRest x ys) (AtRest x ys) zs c.compare_others.new.search.found.items) asked.keeps.found real),
      but_next v (later_cost v xs) (later_cost v (drop k xs)) (later_cost v ys) (field_weight v x * fields_weight v (take (length xs - (k + 1)) ys)) k (length xs) _ _ _ _
          (omega (arith, later_next v xs k c.loop-k-test.true, ap (λ zs. field_weight v x * fields_weight v zs) is))
          c.loop-k.invariant.2 asked c.in_ok-compare_others.ensures.spends,
    )

pub returns : goal.returns
returns g c =
    let v = world g.J.Judge.judgement c.args.graph.now in
    let xs = c.args.fields.now in
    record {
      done = did_map v _ _ (λ M h. rest_all (Done v M false) xs no_entry c.loop-k.k c.loop-k-test.false h) c.loop-k.invariant.0;
      real = all_told v false _ _ _ (tell_rest xs c.loop-k.k c.loop-k-test.false) c.loop-k.invariant.1;
      takes = but_end v (later_cost v xs) _ c.loop-k.k (length xs) _ _ (omega (arith, c.loop-k.auto.k-end)) c.loop-k.invariant.2;
    }

pub compare_others-requires-clause-others : goal.compare_others-requires-clause-others
compare_others-requires-clause-others g c =
    let v = world g.J.Judge.judgement c.args.graph.now in
    let xs = c.args.fields.now in
    let k = c.loop-k.k in
    let a = get_or xs k no_entry in
    subst (λ zs. AreOthers v false a zs c.as_slice.result.now) (sym (rest_is xs (k + 1)))
    (subst (λ zs. AreOthers v false a (drop (k + 1) xs) zs) (sym c.as_slice.ensures.value) (c.in_ok-others.ensures.others a (slice_get-get_or xs k no_entry c.loop-k-test.true)))

pub compare_others-requires-clause-once : goal.compare_others-requires-clause-once
compare_others-requires-clause-once g c =
    let xs = c.args.fields.now in
    let k = c.loop-k.k in
    subst (λ zs. IsSumWithin c.as_slice.result.now zs) (sym (rest_is xs (k + 1))) (subst (λ zs. IsSumWithin zs (drop (k + 1) xs)) (sym c.as_slice.ensures.value) c.in_ok-others.ensures.once)
