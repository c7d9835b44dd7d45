use Rattle.std.proofs.Common.{length, ◌-◌}
use Rattle.merge_certificates.proofs.below.leaves_few.Given as goal

abbrev pub decreases-loop-k : goal.decreases-loop-k
decreases-loop-k l = length l.fields - l.k
