use Rattle.sdl_directives.specs.Sites.{parameter_sites}
use Rattle.sdl_directives.proofs.Earlier.{reports_next}
use Rattle.sdl_directives.proofs.sites.add_parameters.Goals as goal

pub loop-parameter-preserved : goal.loop-parameter-preserved
loop-parameter-preserved c =
    reports_next (parameter_sites c.args.location) c.args.parameters.now c.loop-parameter.parameter-index c.parameter-item.result _ _ _ _ c.loop-parameter-test.true c.parameter-item.is c.loop-parameter.invariant c.in_ok-add_site.ensures
