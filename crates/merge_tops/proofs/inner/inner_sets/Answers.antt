use Rattle.std.proofs.Common.{◌-◌, ◌≤◌, drop, length, subst, take}
use Rattle.std.specs.Prelude.{sum_by}
use Rattle.merge_tops.proofs.Spends.{slice_within}
use Rattle.merge_tops.proofs.inner.inner_sets.Goals as goal

pub returns : goal.returns
returns g c f =
    let xs = c.as_slice-inner.result.now in
    let i = c.partition_point-start.result in
    let j = c.partition_point-end.result in
    subst (λ ys. sum_by f (take j (take (length xs - i) (drop i xs))) ≤ sum_by f ys) c.as_slice-inner.ensures.value (slice_within f xs i j (length xs - i))
