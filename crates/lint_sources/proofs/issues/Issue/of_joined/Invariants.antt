use Rattle.std.proofs.Common.{◌≡◌, map, take}
use Rattle.lint_sources.specs.Places.{place_in}
use Rattle.lint_sources.proofs.issues.Issue.of_joined.Given as goal

-- the locations so far were led back
abbrev pub invariant-loop-location : goal.invariant-loop-location
invariant-loop-location l = l.places.items ≡ map (place_in l.joined) (take l.location-index l.locations)
