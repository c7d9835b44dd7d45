use Rattle.sdl_directives.specs.Sites.{enum_value_sites}
use Rattle.sdl_directives.proofs.Earlier.{reports_next}
use Rattle.sdl_directives.proofs.sites.add_enum_values.Goals as goal

pub loop-value-preserved : goal.loop-value-preserved
loop-value-preserved c =
    reports_next (enum_value_sites) c.args.values.now c.loop-value.value-index c.value-item.result _ _ _ _ c.loop-value-test.true c.value-item.is c.loop-value.invariant c.in_ok-add_site.ensures
