use Rattle.std.proofs.Common.{◌≡◌, ◌++◌, take}
use Rattle.std.specs.List.{flat_map}
use Rattle.sdl_directives.specs.Fault.{fault_values}
use Rattle.sdl_directives.specs.Judged.{site_faults}
use Rattle.sdl_directives.specs.Sites.{site_value}
use Rattle.sdl_directives.specs.Known.{definitions_of}
use Rattle.sdl_directives.proofs.judging.report_sites.Given as goal

-- those of what was seen
abbrev pub invariant-loop-site : goal.invariant-loop-site
invariant-loop-site l = fault_values l.faults.items ≡ fault_values l.initial.faults.items ++ flat_map (λ s. site_faults (definitions_of l.known) (site_value s)) (take l.site-index l.sites)
