use Rattle.std.proofs.Common.{◌≡◌, ◌++◌, ◌∷◌, take}
use Rattle.std.specs.List.{flat_map}
use Rattle.json.specs.Token.{begin_array}
use Rattle.lint_report.specs.Json.{told_locations}
use Rattle.lint_report.proofs.json_report.write_locations.Given as goal

-- the places so far were told
abbrev pub invariant-loop-place : goal.invariant-loop-place
invariant-loop-place l = l.out ≡ l.fn.out ++ begin_array ∷ flat_map (told_locations l.sources l.issue.file) (take l.place-index l.place-items)
