use Rattle.std.proofs.lemmas.Result.{on_ok_weaker}
use Rattle.sdl_faults.proofs.Tells.{adds_plain}
use Rattle.sdl_faults.proofs.directives.add_plain_faults.Goals as goal

pub returns : goal.returns
returns c = on_ok_weaker c.add_circles.result (λ h. adds_plain c.args.document.now c.args.standard.now _ _ _ c.in_ok-add_uses.ensures h) c.add_circles.ensures
