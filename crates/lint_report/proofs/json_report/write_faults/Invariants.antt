use Rattle.std.proofs.Common.{◌≡◌, ◌++◌, take}
use Rattle.std.specs.List.{flat_map}
use Rattle.lint_report.specs.Json.{fault_tokens}
use Rattle.lint_report.proofs.json_report.write_faults.Given as goal

-- the faults so far were told
abbrev pub invariant-loop-fault : goal.invariant-loop-fault
invariant-loop-fault l = l.out ≡ l.fn.out ++ flat_map fault_tokens (take l.fault-index l.faults)
