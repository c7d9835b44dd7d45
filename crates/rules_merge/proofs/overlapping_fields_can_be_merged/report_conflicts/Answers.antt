use Rattle.std.proofs.Common.{arith, map, refl, subst, ◌∙◌}
use Rattle.std.proofs.lemmas.List.{drop_all, drop_more}
use Rattle.merge_field_pairs.specs.Entries.{plain}
use Rattle.merge_conflicts.specs.Texts.{errors_of, told}
use Rattle.merge_conflicts.proofs.Tellings.{told_in}
use Rattle.walk.specs.ContextState.{with_errors}
use Rattle.walk.proofs.Runs.{KeepsPlace-trans}
use Rattle.rules_merge.specs.OverlappingFieldsCanBeMerged.{error_value}
use Rattle.rules_merge.proofs.Reporting.{Ends, ends_next, ends_now}
use Rattle.rules_merge.proofs.overlapping_fields_can_be_merged.report_conflicts.Goals as goal

pub loop-part-init : goal.loop-part-init
loop-part-init g c = record {
  told = λ rs ts found are.
      let E = g.S.PartialEq.eq in
      let schema = c.args.ctx.now.schema in
      let fields = map plain c.args.found.now.fields.items in
      (told E schema ts, told_in E schema fields (c.in_ok-parts.ensures.parts rs (c.as_slice.ensures.value ∙ found)) c.deref-part-items.ensures.value are, refl);
  place = record {
    allocator = refl;
    schema = refl;
    known = refl;
    typings = refl;
    stays = λ failed. failed;
  };
}

pub loop-part-preserved : goal.loop-part-preserved
loop-part-preserved g c = record {
  told = λ rs ts found are.
      let E = g.S.PartialEq.eq in
      let w = c.args.ctx.now in
      let fields = map plain c.args.found.now.fields.items in
      let end = with_errors w (map error_value (errors_of E w.schema ts)) in
      ends_next E w.schema fields end c.loop-part.ctx c.report.new.ctx c.loop-part.invariant.place.schema
      (subst (λ ps. Ends E w.schema fields end ps c.loop-part.ctx) (drop_more c.deref-part-items.result.now c.loop-part.part-index _ c.loop-part-test.true)
      (c.loop-part.invariant.told rs ts found are))
      c.in_ok-report.ensures.ok;
  place = KeepsPlace-trans _ _ _ c.loop-part.invariant.place c.in_ok-report.ensures.place;
}

pub returns-clause-ok : goal.returns-clause-ok
returns-clause-ok g c = λ rs ts found are.
    let E = g.S.PartialEq.eq in
    let w = c.args.ctx.now in
    ends_now E w.schema (map plain c.args.found.now.fields.items) (with_errors w (map error_value (errors_of E w.schema ts))) c.loop-part.ctx
    (drop_all c.loop-part.part-index c.deref-part-items.result.now (omega (arith, c.loop-part-test.false)))
    (c.loop-part.invariant.told rs ts found are)
