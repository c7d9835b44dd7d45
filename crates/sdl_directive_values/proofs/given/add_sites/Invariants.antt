use Rattle.std.proofs.Common.{◌≡◌, ◌++◌, take}
use Rattle.std.specs.List.{flat_map}
use Rattle.sdl_directives.specs.Known.{definitions_of}
use Rattle.sdl_directives.specs.Sites.{site_value}
use Rattle.sdl_directive_values.specs.Given.{given_values, site_given}
use Rattle.sdl_directive_values.proofs.given.add_sites.Given as goal

-- those of what was seen
abbrev pub invariant-loop-site : goal.invariant-loop-site
invariant-loop-site l = given_values l.given.items ≡ given_values l.initial.given.items ++ flat_map (λ s. site_given (definitions_of l.known) (site_value s)) (take l.site-index l.sites)
