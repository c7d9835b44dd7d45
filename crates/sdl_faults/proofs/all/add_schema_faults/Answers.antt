use Rattle.std.proofs.lemmas.Result.{on_ok_weaker}
use Rattle.sdl_faults.proofs.Tells.{adds_schema}
use Rattle.sdl_faults.proofs.all.add_schema_faults.Goals as goal

pub returns : goal.returns
returns c =
    on_ok_weaker c.add_defaults.result (λ h. adds_schema c.args.document.now c.args.schema.now _ _ _ _ c.in_ok-add_faults.ensures c.in_ok-add_circles.ensures h) c.add_defaults.ensures
