-- What is asked to pass many fields at once is taken off a budget, and counted.
use Rattle.std.proofs.Common.{◌≤◌, ◌<◌, ℕ, arith}
use Rattle.merge_search.specs.declared.state.Search.{Search}
use Rattle.merge_search.specs.Spending.{AsksUpto, CountsAtLeast}
use Rattle.merge_search.specs.State.{CountsFields}

-- what was counted is no more than what may be asked
pub asks_upto : (n most : ℕ) (s t : Search) → CountsFields n s t → n ≤ most → AsksUpto most s t
asks_upto n most s t counts less = record { judged = omega (arith, counts.judged, less); keeps = counts.keeps }

-- something was counted
pub counts_one : (n : ℕ) (s t : Search) → CountsFields n s t → 0 < n → CountsAtLeast 1 s t
counts_one n s t counts some = omega (arith, counts.judged, some)
