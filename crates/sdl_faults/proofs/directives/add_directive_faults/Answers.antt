use Rattle.std.proofs.lemmas.Result.{on_ok_weaker}
use Rattle.sdl_faults.proofs.Tells.{adds_directives}
use Rattle.sdl_faults.proofs.directives.add_directive_faults.Goals as goal

pub returns : goal.returns
returns c =
    on_ok_weaker c.add_given.result (λ h. adds_directives c.args.document.now c.args.standard.now c.args.schema.now _ _ _ c.in_ok-add_plain_faults.ensures h) c.add_given.ensures
