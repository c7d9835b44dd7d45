use Rattle.std.proofs.Common.{[], refl}
use Rattle.type_system_report.proofs.Reported.{reports_next}
use Rattle.sdl_directive_circles.specs.Graph.{link_told}
use Rattle.sdl_directive_circles.proofs.circles.names_on.Goals as goal

pub loop-link-preserved : goal.loop-link-preserved
loop-link-preserved c =
    reports_next (link_told c.args.document.now) c.args.links.now c.loop-link.link-index _ _ [] _ _ c.loop-link-test.true refl
    c.loop-link.invariant c.in_ok-add_name.ensures
