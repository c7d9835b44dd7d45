use Rattle.std.proofs.Common.{◌≡◌, take, map}
use Rattle.literals.specs.Judged.{keys_of}
use Rattle.literals.specs.Missing.{missing}
use Rattle.literals.proofs.missing.lacking.Given as goal

abbrev pub invariant-loop-field : goal.invariant-loop-field
invariant-loop-field g l = map (λ n. n.now) l.names.items ≡ missing (keys_of l.entries) (take l.field-index l.field-items)
