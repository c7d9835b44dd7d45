use Rattle.std.proofs.Common.{◌≡◌, drop}
use Rattle.rules_arguments.specs.KnownDirectives.{is_listed}
use Rattle.rules_arguments.proofs.known_directives.is_listed.Given as goal

-- what is left decides
abbrev pub invariant-loop-location : goal.invariant-loop-location
invariant-loop-location l = is_listed l.place l.locations ≡ is_listed l.place (drop l.location-index l.locations)
