use Rattle.std.proofs.Common.{◌≡◌, take}
use Rattle.std.specs.List.{flat_map}
use Rattle.sdl_directives.specs.Sites.{definition_sites, site_values}
use Rattle.sdl_directives.proofs.sites.sites_of.Given as goal

-- those of what was seen
abbrev pub invariant-loop-definition : goal.invariant-loop-definition
invariant-loop-definition l = site_values l.sites.items ≡ flat_map definition_sites (take l.definition-index l.document)
