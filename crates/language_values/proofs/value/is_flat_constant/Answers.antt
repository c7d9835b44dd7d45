use Rattle.std.proofs.Common.{ap, sym, ◌∙◌}
use Rattle.std.specs.List.{list_all}
use Rattle.language_values.specs.Values.{is_plain}
use Rattle.language_values.proofs.ConstantLemmas.{flat_at_object}
use Rattle.language_values.proofs.value.is_flat_constant.Goals as goal

pub returns-in-Object : goal.returns-in-Object
returns-in-Object g c =
    c.are_plain_entries.ensures
    ∙ ap (list_all (λ e. is_plain e.1.item)) c.as_slice-in-Object.ensures.value
    ∙ sym (flat_at_object c.args.value.now c.in-Object.entries c.in-Object.is)
