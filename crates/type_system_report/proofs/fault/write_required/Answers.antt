use Rattle.std.proofs.Common.{rules}
use Rattle.type_system_report.proofs.fault.write_required.Goals as goal

pub returns : goal.returns
returns g c = rw (← c.holder-of.ensures, ← c.name-name.ensures) (search rules)
