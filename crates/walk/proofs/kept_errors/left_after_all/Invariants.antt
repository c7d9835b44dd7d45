use Rattle.std.proofs.Common.{◌≡◌, ◌-◌, take}
use Rattle.walk.specs.ErrorValue.{shares}
use Rattle.walk.proofs.kept_errors.left_after_all.Given as goal

-- what those that were seen leave
abbrev pub invariant-loop-error : goal.invariant-loop-error
invariant-loop-error l = l.left ≡ l.limit - shares (take l.error-index l.errors)
