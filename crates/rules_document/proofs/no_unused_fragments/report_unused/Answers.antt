use Rattle.std.proofs.Common.{[], ◌++◌, sym, subst, take, arith}
use Rattle.fragment_graph.specs.DocumentGraph.{IsNumbered}
use Rattle.fragment_graph.proofs.Joining.{next_take}
use Rattle.rules_document.specs.NoUnusedFragments.{UnusedAmong}
use Rattle.rules_document.proofs.FirstMeeting.{is_numbered}
use Rattle.rules_document.proofs.Unused.{met_next, unused_next, unused_none, reports_more, reports_nothing}
use Rattle.rules_document.proofs.no_unused_fragments.report_unused.Goals as goal

pub loop-place-init : goal.loop-place-init
loop-place-init g c = (
  [],
  unused_none c.args.document.now,
  λ p. (λ h. absurd (c.in_ok-met.ensures.none p h), λ s. let l = s.1 in absurd (omega (arith, l))),
  c.in_ok-met.ensures.kept,
  reports_nothing c.args.ctx.now,
)

pub loop-place-preserved : goal.loop-place-preserved
loop-place-preserved g c =
    let doc = c.args.document.now in
    let i = c.loop-place.place in
    let d = c.index-document-place.result in
    let (fs, u, met, kept, seen) = c.loop-place.invariant in
    let (gs, adds, more) = c.in_ok-report_if_unused.ensures.ok in
    let r = c.in_ok-reached.reached in
    let m = c.in_ok-reached.ensures.reached in (
      fs ++ gs,
      subst (λ zs. UnusedAmong doc zs (fs ++ gs)) (sym (next_take doc i d c.index-document-place.is c.loop-place-test.true))
          (unused_next doc (take i doc) fs u r m c.loop-place.met c.report_if_unused.new.met met d gs (i, c.loop-place-test.true, sym c.index-document-place.is) adds),
      met_next doc (take i doc) fs u r m c.loop-place.met c.report_if_unused.new.met met d gs adds,
      c.in_ok-report_if_unused.ensures.kept,
      reports_more fs gs c.args.ctx.now c.loop-place.ctx c.report_if_unused.new.ctx seen more,
    )

pub report_if_unused-requires-clause-has : goal.report_if_unused-requires-clause-has
report_if_unused-requires-clause-has g c =
    let d = c.index-document-place.result in
    subst (λ graph. IsNumbered graph.numbers d) (sym c.in_ok-reached.ensures.graph)
    (is_numbered c.args.document.now c.args.index.now.graph.numbers d c.requires.graph.numbers (c.loop-place.place, c.loop-place-test.true, sym c.index-document-place.is))
