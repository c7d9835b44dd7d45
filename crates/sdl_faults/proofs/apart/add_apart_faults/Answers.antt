use Rattle.std.proofs.lemmas.Result.{on_ok_weaker}
use Rattle.sdl_faults.proofs.Tells.{adds_apart}
use Rattle.sdl_faults.proofs.apart.add_apart_faults.Goals as goal

pub returns : goal.returns
returns c =
    on_ok_weaker c.add_given.result
    (λ h. adds_apart c.args.mended.now _ c.args.standard.now _ _ _ _ _ c.as_slice-document.ensures.value c.in_ok-add_compared.ensures c.in_ok-add_circles.ensures c.in_ok-add_defaults.ensures h)
    c.add_given.ensures
