use Rattle.std.proofs.Common.{◌≡◌, ◌++◌, IfOk, map, sym, subst, codes, []}
use mathlib.Core.Path.{fun_ext}
use Rattle.std.proofs.lemmas.List.{append-nil}
use Rattle.walk.specs.ContextState.{with_errors}
use Rattle.rules_support.specs.Names.{text_name}
use Rattle.rules_support.specs.Repeats.{repeats}
use Rattle.rules_operations.specs.UniqueVariableNames.{repeated_among, repeated_variable_message}
use Rattle.rules_operations.proofs.unique_variable_names.report.Goals as goal

-- nothing stands behind the name
ends_with_the_name : (λ name. (codes "There can only be one variable named " ++ name) ++ []) ≡ repeated_variable_message
ends_with_the_name = fun_ext (λ name. append-nil (repeated_variable_message name))

pub returns-in-Some-clause-ok : goal.returns-in-Some-clause-ok
returns-in-Some-clause-ok g c =
    subst (λ ds. IfOk c.report_repeats.result (λ _. c.report_repeats.new.ctx ≡ with_errors c.args.ctx.now (repeated_among ds))) (sym c.in-Some.is)
    (subst (λ message. IfOk c.report_repeats.result (λ _. c.report_repeats.new.ctx ≡ with_errors c.args.ctx.now (repeats message (map text_name c.in-Some.list.item.items.items)))) ends_with_the_name c.report_repeats.ensures.ok)
