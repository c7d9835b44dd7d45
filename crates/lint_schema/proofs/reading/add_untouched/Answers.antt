use Rattle.std.proofs.Common.{◌≡◌, IfSome, subst}
use Rattle.std.proofs.lemmas.Result.{on_ok_weaker}
use Rattle.sdl_mending.specs.declared.mended.Mended.{Mended}
use Rattle.lint_schema.proofs.Located.{left_told}
use Rattle.lint_schema.proofs.reading.add_untouched.Goals as goal

-- with what is left of them
pub returns-in-Some : goal.returns-in-Some
returns-in-Some c =
    let touched = c.in_ok-touched.touched in
    let same = subst (λ o. IfSome o (λ (m : Mended). m.touched ≡ touched)) c.in-Some.is c.in_ok-mended.ensures in
    on_ok_weaker c.add_mended_faults.result
    (left_told c.args.sources.now c.args.joined.now c.args.document.now c.args.standard.now c.args.error.now c.in-Faults.reasons c.as_slice.result.now touched c.in-Some.mended c.args.faults.now.items c.add_mended_faults.new.faults.items c.in-Faults.is c.as_slice.ensures.list c.in_ok-touched.ensures same)
    c.add_mended_faults.ensures
