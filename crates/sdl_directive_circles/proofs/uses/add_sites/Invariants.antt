use Rattle.std.proofs.Common.{◌≡◌, ◌++◌, take}
use Rattle.std.specs.List.{flat_map}
use Rattle.sdl_directives.specs.Sites.{site_value}
use Rattle.sdl_directive_circles.specs.Uses.{directives_used, name_values}
use Rattle.sdl_directive_circles.proofs.uses.add_sites.Given as goal

-- those of what was seen
abbrev pub invariant-loop-site : goal.invariant-loop-site
invariant-loop-site l =
    name_values l.uses.items ≡ name_values l.initial.uses.items ++ flat_map (λ s. directives_used (site_value s))
    (take l.site-index l.sites)
