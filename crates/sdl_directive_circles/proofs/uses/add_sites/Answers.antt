use Rattle.sdl_directives.specs.Sites.{site_value}
use Rattle.type_system_report.proofs.Reported.{reports_next}
use Rattle.sdl_directive_circles.specs.Uses.{directives_used}
use Rattle.sdl_directive_circles.proofs.uses.add_sites.Goals as goal

pub loop-site-preserved : goal.loop-site-preserved
loop-site-preserved c =
    reports_next (λ s. directives_used (site_value s)) c.args.sites.now c.loop-site.site-index c.site-item.result _ _ _ _
    c.loop-site-test.true c.site-item.is c.loop-site.invariant c.in_ok-add_directives.ensures
