use Rattle.sdl_directives.specs.Known.{definitions_of}
use Rattle.type_system_report.proofs.Reported.{reports_next}
use Rattle.sdl_directives.specs.Sites.{site_value}
use Rattle.sdl_directive_values.specs.Given.{site_given}
use Rattle.sdl_directive_values.proofs.given.add_sites.Goals as goal

pub loop-site-preserved : goal.loop-site-preserved
loop-site-preserved c =
    reports_next (λ s. site_given (definitions_of c.args.known.now) (site_value s)) c.args.sites.now c.loop-site.site-index c.site-item.result _ _ _ _ c.loop-site-test.true c.site-item.is c.loop-site.invariant c.in_ok-add_directives.ensures
