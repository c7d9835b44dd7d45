use Rattle.std.proofs.Common.{[]}
use Rattle.sdl_directives.specs.Sites.{definition_sites}
use Rattle.sdl_directives.proofs.Earlier.{reports_next}
use Rattle.sdl_directives.proofs.sites.sites_of.Goals as goal

pub loop-definition-preserved : goal.loop-definition-preserved
loop-definition-preserved c =
    reports_next (definition_sites) c.args.document.now c.loop-definition.definition-index c.definition-item.result _ [] _ _ c.loop-definition-test.true c.definition-item.is c.loop-definition.invariant c.in_ok-add_definition.ensures
