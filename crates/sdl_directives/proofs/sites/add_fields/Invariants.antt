use Rattle.std.proofs.Common.{◌≡◌, ◌++◌, take}
use Rattle.std.specs.List.{flat_map}
use Rattle.sdl_directives.specs.Sites.{field_sites, site_values}
use Rattle.sdl_directives.proofs.sites.add_fields.Given as goal

-- those of what was seen
abbrev pub invariant-loop-field : goal.invariant-loop-field
invariant-loop-field l = site_values l.sites.items ≡ site_values l.initial.sites.items ++ flat_map field_sites (take l.field-index l.fields)
