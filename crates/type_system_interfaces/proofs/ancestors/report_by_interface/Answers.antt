use Rattle.std.proofs.Common.{rules, sym, ap, ◌≡◌, ◌∙◌, ◌++◌, Some, option_copied}
use Rattle.std.specs.List.{flat_map}
use Rattle.std.specs.Prelude.{string_bytes}
use Rattle.meta.specs.declared.kinds.MetaTypeOf.TheVariants as m
use Rattle.type_system_report.specs.Fault.{reported}
use Rattle.type_system_interfaces.specs.Ancestors.{wrong_ancestor, wrong_ancestors_by}
use Rattle.type_system_interfaces.proofs.ancestors.report_by_interface.Goals as goal

pub returns-in_ok-report_names : goal.returns-in_ok-report_names
returns-in_ok-report_names g c =
    let old = reported c.args.faults.now in
    let is : option_copied c.args.named ≡ Some (m.Interface c.in-Some-Interface.interface) = search rules in
    c.in_ok-report_names.ensures
    ∙ ap (λ ns. old ++ flat_map (λ i. wrong_ancestor c.args.meta.now c.args.name.now (string_bytes i)) ns) c.as_slice.ensures.value
    ∙ ap (λ t. old ++ wrong_ancestors_by c.args.meta.now c.args.name.now t) (sym is)
