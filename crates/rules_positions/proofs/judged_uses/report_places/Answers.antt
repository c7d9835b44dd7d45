use Rattle.std.proofs.Common.{refl}
use Rattle.rules_positions.specs.FirstVariables.{kept_first}
use Rattle.rules_positions.specs.JudgedUses.{UsesGive, uses_in, values_in}
use Rattle.rules_positions.proofs.Giving.{appended_at}
use Rattle.rules_positions.proofs.judged_uses.report_places.Goals as goal

pub loop-place-preserved : goal.loop-place-preserved
loop-place-preserved g c =
    appended_at (λ types place fs. UsesGive g.J.Judge.variable_of g.J.Judge.judged types (kept_first c.args.variables.now) (uses_in (values_in g.J.Judge.value c.args.uses.now) place) fs) c.args.ctx.now c.args.places.now c.loop-place.place-index _ _
    c.loop-place.ctx c.report_place.new.ctx refl c.loop-place-test.true c.loop-place.invariant c.in_ok-report_place.ensures.ok
