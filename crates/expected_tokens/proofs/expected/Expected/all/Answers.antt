use Rattle.std.proofs.Common.{refl}
use Rattle.expected_tokens.specs.Samples.{listed}
use Rattle.expected_tokens.proofs.Samples.{every}
use Rattle.expected_tokens.proofs.expected.Expected.all.Goals as goal

pub returns-clause-every : goal.returns-clause-every
returns-clause-every c = every

pub returns-clause-listed : goal.returns-clause-listed
unfolding listed
returns-clause-listed c = refl
