use Rattle.std.proofs.Common.{◌≡◌, ◌++◌, ◌∷◌, take}
use Rattle.std.specs.List.{flat_map}
use Rattle.json.specs.Token.{begin_array}
use Rattle.error_report.specs.Json.{location_tokens}
use Rattle.error_report.proofs.error_list.write_locations.Given as goal

-- the locations so far were told
abbrev pub invariant-loop-location : goal.invariant-loop-location
invariant-loop-location l = l.out ≡ l.fn.out ++ begin_array ∷ flat_map (location_tokens l.text) (take l.location-index l.locations)
