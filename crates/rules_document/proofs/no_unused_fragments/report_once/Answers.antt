use Rattle.std.proofs.Common.{[], ◌∷◌, sym}
use Rattle.std.proofs.lemmas.Result.{IfOk-weaker}
use Rattle.rules_document.specs.MetFragments.{name_and_span}
use Rattle.rules_document.proofs.Meeting.{adds_marked, adds_none, adds_one}
use Rattle.rules_document.proofs.Unused.{both, reports_nothing}
use Rattle.rules_document.proofs.no_unused_fragments.report_once.Goals as goal

pub returns-then-is_reached-clause-ok : goal.returns-then-is_reached-clause-ok
returns-then-is_reached-clause-ok g c =
    let met = c.args.met.now in
    ([], adds_marked c.args.reached.now met met (name_and_span c.args.fragment.now) ((c.is_reached.ensures _ (sym c.requires.number)).0 c.if-is_reached.true), reports_nothing c.args.ctx.now)

pub returns-then-branch-clause-ok : goal.returns-then-branch-clause-ok
returns-then-branch-clause-ok g c =
    let p = name_and_span c.args.fragment.now in
    IfOk-weaker c.report_fragment.result _ _
    (λ x e. (
      p ∷ [],
      adds_one c.args.reached.now c.args.met.now c.meet.new.met p c.in_ok-meet.ensures.met
          (λ m. both c.is_reached.result ((c.is_reached.ensures _ (sym c.requires.number)).1 m) c.if-is_reached.false)
          (c.in_ok-meet.ensures.first c.if-branch.true),
      e,
    ))
    c.report_fragment.ensures.ok

pub returns-clause-ok : goal.returns-clause-ok
returns-clause-ok g c =
    let p = name_and_span c.args.fragment.now in
    let met = c.args.met.now in (
      [],
      adds_none c.args.reached.now met c.meet.new.met p c.in_ok-meet.ensures.met
          (c.in_ok-meet.ensures.known c.if-branch.false),
      reports_nothing c.args.ctx.now,
    )
