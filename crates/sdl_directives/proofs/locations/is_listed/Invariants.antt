use Rattle.std.proofs.Common.{◌≡◌, drop}
use Rattle.sdl_directives.specs.Locations.{is_listed}
use Rattle.sdl_directives.proofs.locations.is_listed.Given as goal

-- what is left decides
abbrev pub invariant-loop-listed : goal.invariant-loop-listed
invariant-loop-listed l = is_listed l.location l.locations ≡ is_listed l.location (drop l.listed-index l.locations)
