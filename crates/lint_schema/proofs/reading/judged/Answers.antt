use Rattle.std.proofs.Common.{arith}
use Rattle.lint_schema.proofs.Located.{none_judged}
use Rattle.lint_schema.proofs.reading.judged.Goals as goal

pub returns-clause-some : goal.returns-clause-some
returns-clause-some c = (none_judged c.args.sources.now c.args.joined.now c.args.document.now c.args.standard.now c.args.schema c.args.faults.now.items c.add_type_system_faults.new.faults.items c.in_ok-add_type_system_faults.ensures (omega arith)).0

pub returns-clause-valid : goal.returns-clause-valid
returns-clause-valid c = (none_judged c.args.sources.now c.args.joined.now c.args.document.now c.args.standard.now c.args.schema c.args.faults.now.items c.add_type_system_faults.new.faults.items c.in_ok-add_type_system_faults.ensures (omega arith)).1
