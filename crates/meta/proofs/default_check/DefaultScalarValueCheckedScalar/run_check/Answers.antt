use Rattle.std.proofs.Common.{refl}
use Rattle.meta.proofs.default_check.DefaultScalarValueCheckedScalar.run_check.Goals as goal

pub returns : goal.returns
returns g c = (c.args.alloc, c.args.value, refl, c.run.ensures.0)
