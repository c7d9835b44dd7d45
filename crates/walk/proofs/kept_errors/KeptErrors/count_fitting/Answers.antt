use Rattle.std.proofs.Common.{◌∙◌, ◌+◌, ◌-◌, ap, arith, length, subst, sym}
use Rattle.std.proofs.lemmas.List.{take_all}
use Rattle.walk.specs.ContextState.{fitting}
use Rattle.walk.specs.ErrorValue.{share, shares}
use Rattle.walk.proofs.Kept.{Counted, counted_full, counted_more, fitting_all}
use Rattle.walk.proofs.kept_errors.KeptErrors.count_fitting.Goals as goal

-- there is no limit
pub returns-then-self-eq0 : goal.returns-then-self-eq0
returns-then-self-eq0 c =
    let errors = c.args.errors.now in
    let held = shares c.args.self.now.errors.items in
    take_all (length errors) errors (omega arith) ∙ sym (fitting_all held errors)
    ∙ ap (λ n. fitting n held errors) (sym c.if-self-eq0.true)

-- nothing is left
pub returns-then-left-eq0 : goal.returns-then-left-eq0
returns-then-left-eq0 c =
    counted_full c.args.self.now.limit _ c.args.errors.now c.loop-count.count _ c.if-self-eq0.false c.if-left-eq0.true c.loop-count.invariant

pub loop-count-preserved : goal.loop-count-preserved
loop-count-preserved c =
    let errors = c.args.errors.now in
    subst (Counted c.args.self.now.limit (shares c.args.self.now.errors.items) errors (c.loop-count.count + 1))
    (sym (c.left_after-left.ensures ∙ ap (λ e. c.loop-count.left - share e) c.index-errors-count.is))
    (counted_more c.args.self.now.limit _ errors c.loop-count.count _ c.index-errors-count.result c.loop-count-test.true c.if-left-eq0.false c.loop-count.invariant)
