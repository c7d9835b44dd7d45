use Rattle.std.proofs.Common.{◌≡◌, ◌++◌, map, string_bytes, take}
use Rattle.variable_values.specs.Messages.{error_at}
use Rattle.variable_values.proofs.variables.add_errors.Given as goal

abbrev pub invariant-loop-message : goal.invariant-loop-message
invariant-loop-message l = l.errors.items ≡ l.initial.errors.items ++ map (error_at l.place) (map string_bytes (take l.message-index l.messages))
