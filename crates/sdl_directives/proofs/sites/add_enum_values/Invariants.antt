use Rattle.std.proofs.Common.{◌≡◌, ◌++◌, take}
use Rattle.std.specs.List.{flat_map}
use Rattle.sdl_directives.specs.Sites.{enum_value_sites, site_values}
use Rattle.sdl_directives.proofs.sites.add_enum_values.Given as goal

-- those of what was seen
abbrev pub invariant-loop-value : goal.invariant-loop-value
invariant-loop-value l = site_values l.sites.items ≡ site_values l.initial.sites.items ++ flat_map enum_value_sites (take l.value-index l.values)
