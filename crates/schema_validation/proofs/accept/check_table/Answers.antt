use Rattle.std.proofs.Common.{rules}
use Rattle.schema_validation.specs.RootNames.{roots_asked}
use Rattle.schema_validation.proofs.accept.check_table.Goals as goal

pub returns-in_err-check_names-clause-err : goal.returns-in_err-check_names-clause-err
returns-in_err-check_names-clause-err g c = let true_of = c.in_err-check_names.ensures.err (roots_asked c.args.roots) in search rules

pub returns-in_err-check_members-clause-err : goal.returns-in_err-check_members-clause-err
returns-in_err-check_members-clause-err g c = let true_of = c.in_err-check_members.ensures.err (roots_asked c.args.roots) in search rules

pub returns-clause-err : goal.returns-clause-err
returns-clause-err g c = c.check_inputs.ensures.err (roots_asked c.args.roots)
