use Rattle.std.proofs.Common.{◌≡◌, ◌++◌, string_bytes, take}
use Rattle.std.specs.List.{flat_map}
use Rattle.lint_report.specs.Github.{fault_command}
use Rattle.lint_report.proofs.github_report.write_faults.Given as goal

-- those so far were written
abbrev pub invariant-loop-fault : goal.invariant-loop-fault
invariant-loop-fault l = string_bytes l.text ≡ string_bytes l.initial.text ++ flat_map fault_command (take l.fault-index l.faults)
