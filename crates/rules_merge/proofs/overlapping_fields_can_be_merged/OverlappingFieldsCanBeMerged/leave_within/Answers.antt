use Rattle.std.proofs.Common.{◌≡◌, ◌≤◌, ◌*◌, ◌-◌, ℕ, List, [], inl, length, refl, ap, subst}
use Rattle.std.specs.Option.{IfSome}
use Rattle.std.proofs.lemmas.Result.{IfOk-weaker}
use Rattle.merge_graph.specs.Definitions.{fragment_count}
use Rattle.merge_graph.specs.SetsIn.{HasKnownConditions}
use Rattle.merge_graph.specs.Sizes.{selection_count}
use Rattle.merge_document.specs.Found.{AreTogether, IsFinished, IsJudged, most_compared, most_opened}
use Rattle.merge_document.proofs.Searching.{at_some}
use Rattle.walk.proofs.Kept.{with_none}
use Rattle.rules_merge.proofs.Judging.{Bounds, of_none, of_search}
use Rattle.rules_merge.proofs.overlapping_fields_can_be_merged.OverlappingFieldsCanBeMerged.leave_within.Goals as goal

pub returns-in-Some-clause-ok : goal.returns-in-Some-clause-ok
returns-in-Some-clause-ok g c =
    let E = g.S.PartialEq.eq in
    let schema = c.args.ctx.now.schema in
    let document = c.args.document.now in
    let o = c.in_ok-found.field-0 in
    let found = c.in-Some.found in
    let is = c.in-Some.is in
    let same = ap (λ w. w.schema) c.ctx.view_is in
    let j = at_some (IsJudged E schema document) o found is (subst (λ s. IfSome o (IsJudged E s document)) same c.in_ok-found.ensures.judged) in
    let few = at_some (λ f. f.compared ≤ fragment_count document * (fragment_count document - 1)) o found is c.in_ok-found.ensures.few in
    let enough = at_some (λ f. IsFinished f → (ps : List (List ℕ × List ℕ)) → AreTogether schema document ps → length ps ≤ f.compared) o found is
    (subst (λ s. IfSome o (λ f. IsFinished f → (ps : List (List ℕ × List ℕ)) → AreTogether s document ps → length ps ≤ f.compared)) same c.in_ok-found.ensures.enough) in
    let opened = at_some (λ f. f.opened ≤ fragment_count document * f.lists) o found is c.in_ok-found.ensures.opened in
    let few_fields = at_some (λ f. HasKnownConditions schema document → f.judged ≤ most_compared document) o found is
    (subst (λ s. IfSome o (λ f. HasKnownConditions s document → f.judged ≤ most_compared document)) same c.in_ok-found.ensures.compares) in
    let linear = at_some (λ f. HasKnownConditions schema document → f.opened ≤ fragment_count document * most_opened document) o found is
    (subst (λ s. IfSome o (λ f. HasKnownConditions s document → f.opened ≤ fragment_count document * most_opened document)) same c.in_ok-found.ensures.linear) in
    let looked = at_some (λ f. HasKnownConditions schema document → f.looked ≤ selection_count document * most_opened document) o found is
    (subst (λ s. IfSome o (λ f. HasKnownConditions s document → f.looked ≤ selection_count document * most_opened document)) same c.in_ok-found.ensures.looked) in
    let bounds : Bounds schema document found = record { few = few; opened = opened; linear = linear; looked = looked; compares = few_fields } in
    let limit = at_some (λ f. f.limit ≡ c.args.enough) o found is c.in_ok-found.ensures.limit in
    IfOk-weaker c.report_found.result _ _
    (λ x told.
    let (es, of_search_told, appended) = told in
    (es, of_search E schema document c.args.enough o found is limit c.in_ok-found.ensures.none j enough bounds _ (record { compared = refl; opened = refl; looked = refl; lists = refl; judged = refl }) es of_search_told, appended))
    (c.report_found.ensures.ok j.numbered j.reports j.found j.are)

pub returns-in-None-clause-ok : goal.returns-in-None-clause-ok
returns-in-None-clause-ok g c = (
  [],
  inl (of_none g.S.PartialEq.eq c.args.ctx.now.schema c.args.document.now c.in_ok-found.field-0 c.in-None.is c.in_ok-found.ensures.none _ refl refl refl refl),
  with_none c.args.ctx.now,
)
