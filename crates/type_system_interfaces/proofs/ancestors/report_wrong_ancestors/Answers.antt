use Rattle.type_system_interfaces.specs.Ancestors.{wrong_ancestors_at}
use Rattle.type_system_interfaces.proofs.Reported.{entries_next}
use Rattle.type_system_interfaces.proofs.ancestors.report_wrong_ancestors.Goals as goal

pub loop-name-preserved : goal.loop-name-preserved
loop-name-preserved g c =
    entries_next (wrong_ancestors_at c.args.meta.now c.args.schema.now) c.loop-name.rest.now c.in-Some.others.now c.in-Some.name.now c.as_str.result.now _ _ _ c.in-Some.ensures.cases.0 c.as_str.ensures.value c.loop-name.invariant c.in_ok-report_at_entry.ensures
