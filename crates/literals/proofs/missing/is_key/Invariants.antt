use Rattle.std.proofs.Common.{◌≡◌, drop}
use Rattle.literals.specs.Judged.{keys_of}
use Rattle.schema.specs.Possible.{is_among}
use Rattle.literals.proofs.missing.is_key.Given as goal

abbrev pub invariant-loop-key : goal.invariant-loop-key
invariant-loop-key g l = is_among (keys_of l.entries) l.name ≡ is_among (keys_of (drop l.key-index l.entries)) l.name
