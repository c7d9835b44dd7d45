use Rattle.std.proofs.Common.{◌≡◌, drop, map}
use Rattle.schema.specs.Possible.{is_among}
use Rattle.literals.proofs.missing.is_noted.Given as goal

abbrev pub invariant-loop-noted : goal.invariant-loop-noted
invariant-loop-noted l = is_among (map (λ n. n.now) l.names) l.name ≡ is_among (map (λ n. n.now) (drop l.noted-index l.names)) l.name
