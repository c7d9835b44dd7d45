use Rattle.std.proofs.Common.{◌≡◌, true, rules, arith, below_more}
use Rattle.bit_matrix.specs.Set.{has}
use Rattle.merge_sets.proofs.kinds.are_all_in.Goals as goal

pub loop-k-preserved : goal.loop-k-preserved
loop-k-preserved c = below_more (λ i. has c.args.rows.now i ≡ true) c.loop-k.k c.loop-k.invariant (search rules)

pub returns : goal.returns
returns c is k l = c.loop-k.invariant k (omega (arith, l, c.loop-k-test.false))
