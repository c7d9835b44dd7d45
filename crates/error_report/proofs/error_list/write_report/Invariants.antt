use Rattle.std.proofs.Common.{◌≡◌, ◌++◌, ◌∷◌, take}
use Rattle.std.specs.List.{flat_map}
use Rattle.json.specs.Token.{begin_array}
use Rattle.error_report.specs.Json.{error_tokens}
use Rattle.error_report.proofs.error_list.write_report.Given as goal

-- the errors so far were told
abbrev pub invariant-loop-error : goal.invariant-loop-error
invariant-loop-error l = l.out ≡ l.fn.out ++ begin_array ∷ flat_map (error_tokens l.text) (take l.error-index l.errors)
