use Rattle.std.proofs.Common.{◌≤◌, ◌<◌, length, sym, subst, ap, ◌∙◌, false}
use Rattle.std.specs.List.{All}
use Rattle.std.proofs.lemmas.List.Elements.{All-weaker}
use Rattle.std.proofs.lemmas.Result.{on_ok_weaker}
use Rattle.merge_sets.specs.World.{world, own_of}
use Rattle.merge_search.specs.Reports.{AtPlaces}
use Rattle.merge_tops.specs.Inner.{IsPart, IsStart, AtParts}
use Rattle.merge_search.proofs.Adding.{adds_none}
use Rattle.merge_tops.proofs.Again.{whole_part, row_parts, adds_next}
use Rattle.merge_search.proofs.Work.{did_none, did_then, did_map}
use Rattle.merge_tops.specs.TopCosts.{part_in}
use Rattle.merge_search.specs.Weight.{field_weight, fields_weight}
use Rattle.merge_tops.proofs.Spends.{inner_spends}
use Rattle.merge_tops.proofs.inner.compare_inner.Goals as goal

pub returns-then-is_empty-clause-done : goal.returns-then-is_empty-clause-done
returns-then-is_empty-clause-done g c = did_none (world g.J.Judge.judgement c.args.graph.now) _ c.args.search.now (λ M k. tt)

pub returns-then-is_empty-clause-real : goal.returns-then-is_empty-clause-real
returns-then-is_empty-clause-real g c = adds_none (world g.J.Judge.judgement c.args.graph.now) false (AtPlaces (world g.J.Judge.judgement c.args.graph.now) c.args.s) _

pub compare_own_part-requires : goal.compare_own_part-requires
compare_own_part-requires g c = record {
  part = subst (λ zs. IsPart c.in_ok-part.part.own.items zs) c.own.ensures
      (whole_part c.in_ok-part.part.own.items c.part_of-fields.result.now (ap (λ v. v.items) c.in_ok-part.ensures.own ∙ c.in_ok-from_slice.ensures.items) c.own.result.now c.part_of-fields.ensures.part);
  plain = c.requires.plain;
}

pub write_part-requires : goal.write_part-requires
write_part-requires g c =
    let n = length c.args.graph.now.fragments.items in
    subst (λ zs. All (λ k. k < n) zs) (sym c.as_slice-2.ensures.value)
    (All-weaker (IsStart n c.args.listed.now) (λ k. k < n) (λ k h. h.0) c.in_ok-starts.starts.items c.in_ok-starts.ensures)

pub returns : goal.returns
returns g c =
    let v = world g.J.Judge.judgement c.args.graph.now in
    let n = length c.args.graph.now.fragments.items in
    let part = c.in_ok-part.part.own.items in
    let is : IsPart part (own_of v c.args.s) =
    subst (λ zs. IsPart part zs) c.own.ensures
    (whole_part part c.part_of-fields.result.now (ap (λ w. w.items) c.in_ok-part.ensures.own ∙ c.in_ok-from_slice.ensures.items) c.own.result.now c.part_of-fields.ensures.part) in
    let less : fields_weight v part ≤ fields_weight v (part_in (own_of v c.args.s) c.args.inner) =
    subst (λ xs. fields_weight v part ≤ fields_weight v (part_in xs c.args.inner)) c.own.ensures
    (subst (λ ys. fields_weight v ys ≤ fields_weight v (part_in c.own.result.now c.args.inner)) (sym (ap (λ w. w.items) c.in_ok-part.ensures.own ∙ c.in_ok-from_slice.ensures.items))
    (c.part_of-fields.ensures.within (field_weight v))) in
    let starts : All (IsStart n c.args.listed.now) c.as_slice-2.result.now =
    subst (λ zs. All (IsStart n c.args.listed.now) zs) (sym c.as_slice-2.ensures.value) c.in_ok-starts.ensures in
    record {
      done = on_ok_weaker c.write_part.result (λ d. did_map v _ _ (λ M h. tt) (did_then v _ _ c.in_ok-compare_own_part.ensures.done d)) c.write_part.ensures.done;
      real = on_ok_weaker c.write_part.result
          (λ d. adds_next v (AtPlaces v c.args.s) (AtParts v part c.as_slice-2.result.now) (row_parts v c.args.s n part c.args.listed.now c.as_slice-2.result.now is starts c.requires.listed) c.in_ok-compare_own_part.ensures.real d)
          c.write_part.ensures.real;
      spends = on_ok_weaker c.write_part.result (inner_spends v (fields_weight v part) (fields_weight v (part_in (own_of v c.args.s) c.args.inner)) _ _ _ less c.in_ok-compare_own_part.ensures.spends)
          c.write_part.ensures.spends;
      counts = c.write_part.ensures.counts;
    }
