use Rattle.std.proofs.Common.{◌≤◌, length}
use Rattle.lint_schema.proofs.definitions.add_syntax_faults.Given as goal

-- no fault goes
abbrev pub invariant-loop-file : goal.invariant-loop-file
invariant-loop-file l = length l.initial.faults.items ≤ length l.faults.items
