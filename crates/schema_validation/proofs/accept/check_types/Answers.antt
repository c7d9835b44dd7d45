use Rattle.std.proofs.Common.{rules, subst}
use Rattle.std.specs.Prelude.{OnOk, IfErr}
use Rattle.schema_validation.specs.Accepted.{IsAccepted, IsTrueRefusal}
use Rattle.schema_validation.specs.RootNames.{roots_asked}
use Rattle.schema_validation.proofs.accept.check_types.Goals as goal

pub returns-in_err-table-clause-err : goal.returns-in_err-table-clause-err
returns-in_err-table-clause-err g c = let true_of = c.in_err-table.ensures.err (roots_asked c.args.roots) in search rules

pub returns-clause-ok : goal.returns-clause-ok
returns-clause-ok g c = subst (λ ts. OnOk c.check_table.result (IsAccepted (roots_asked c.args.roots) ts)) c.in_ok-table.ensures.types c.check_table.ensures.ok

pub returns-clause-err : goal.returns-clause-err
returns-clause-err g c = subst (λ ts. IfErr c.check_table.result (IsTrueRefusal (roots_asked c.args.roots) ts)) c.in_ok-table.ensures.types c.check_table.ensures.err
