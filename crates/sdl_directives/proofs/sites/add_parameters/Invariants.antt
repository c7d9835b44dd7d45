use Rattle.std.proofs.Common.{◌≡◌, ◌++◌, take}
use Rattle.std.specs.List.{flat_map}
use Rattle.sdl_directives.specs.Sites.{parameter_sites, site_values}
use Rattle.sdl_directives.proofs.sites.add_parameters.Given as goal

-- those of what was seen
abbrev pub invariant-loop-parameter : goal.invariant-loop-parameter
invariant-loop-parameter l = site_values l.sites.items ≡ site_values l.initial.sites.items ++ flat_map (parameter_sites l.location) (take l.parameter-index l.parameters)
