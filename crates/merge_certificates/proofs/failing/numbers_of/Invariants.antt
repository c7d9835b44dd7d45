use Rattle.std.proofs.Common.{◌≡◌, ◌<◌, ◌≤◌, length}
use Rattle.merge_certificates.specs.Failing.{AreNumbered, TellsSome}
use Rattle.merge_certificates.proofs.failing.numbers_of.Given as goal

abbrev pub invariant-loop-k : goal.invariant-loop-k
invariant-loop-k g l = (length l.numbers.items ≡ l.k) × AreNumbered (g.J.Judge.are_kin l.graph.judge) l.kinds l.fields l.numbers.items × (l.budget ≤ l.fn.budget)
    × (TellsSome l.numbers.items → l.budget < l.fn.budget)
