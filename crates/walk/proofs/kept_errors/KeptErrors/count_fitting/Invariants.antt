use Rattle.walk.specs.ErrorValue.{shares}
use Rattle.walk.proofs.Kept.{Counted}
use Rattle.walk.proofs.kept_errors.KeptErrors.count_fitting.Given as goal

-- so many are kept, and then as many as fit into what is left
abbrev pub invariant-loop-count : goal.invariant-loop-count
invariant-loop-count l = Counted l.self.limit (shares l.self.errors.items) l.errors l.count l.left
