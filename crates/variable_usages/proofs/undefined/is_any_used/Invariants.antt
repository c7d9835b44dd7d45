use Rattle.std.proofs.Common.{◌≡◌, ℕ, ◌<◌, []}
use Rattle.variable_usages.specs.InReachUses.{kept_uses}
use Rattle.variable_usages.proofs.undefined.is_any_used.Given as goal

abbrev pub invariant-loop-uses : goal.invariant-loop-uses
invariant-loop-uses l = (k : ℕ) → k < l.uses-index → kept_uses l.all k ≡ []
