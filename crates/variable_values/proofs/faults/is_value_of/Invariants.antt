use Rattle.std.proofs.Common.{◌≡◌, drop, map, string_bytes}
use Rattle.schema.specs.Possible.{is_among}
use Rattle.variable_values.proofs.faults.is_value_of.Given as goal

abbrev pub invariant-loop-known : goal.invariant-loop-known
invariant-loop-known l = is_among (map (λ n. string_bytes n.name) l.values) l.name ≡ is_among (map (λ n. string_bytes n.name) (drop l.known-index l.values)) l.name
