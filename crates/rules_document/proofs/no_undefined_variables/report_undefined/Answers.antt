use Rattle.std.proofs.Common.{[], ◌++◌, inl, inr, refl, subst}
use Rattle.walk.proofs.Kept.{with_none}
use Rattle.variable_usages.specs.Undefined.{UsesNothing}
use Rattle.variable_usages.proofs.Skipping.{all_defined, not_used}
use Rattle.variable_usages.proofs.Turns.{next_numbered}
use Rattle.rules_document.specs.NoUndefinedVariables.{undefined_error}
use Rattle.rules_document.proofs.Told.{told_more}
use Rattle.rules_document.proofs.no_undefined_variables.report_undefined.Goals as goal

pub returns-then-not-is_any_used-clause-ok : goal.returns-then-not-is_any_used-clause-ok
returns-then-not-is_any_used-clause-ok g c =
    let index = c.args.index.now in
    elim c.if-not-is_any_used.ensures.none [
      | inl used ↦ absurd (not_used used)
      | inr nothing ↦ (
        [],
        all_defined c.args.document.now index.scopes c.requires.scopes index.uses.items c.requires.uses (subst UsesNothing c.as_slice.ensures.value nothing),
        with_none c.args.ctx.now,
      )
    ]

pub loop-number-preserved : goal.loop-number-preserved
loop-number-preserved g c =
    let (found, before, seen, ready) = c.loop-number.invariant in
    let (part, given, more) = c.in_ok-report_numbered.ensures.ok in (
      found ++ part,
      next_numbered c.args.document.now c.args.index.now.scopes c.loop-number.number found (found ++ part) before (part, given, refl),
      told_more undefined_error found part c.args.ctx.now c.loop-number.ctx c.report_numbered.new.ctx seen more,
      c.in_ok-report_numbered.ensures.ready,
    )
