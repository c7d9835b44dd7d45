use Rattle.std.proofs.Common.{false, ap, sym, ◌∙◌}
use Rattle.std.specs.Option.{option_map_or}
use Rattle.meta.specs.Kinds.{name_of_meta, is_input_meta}
use Rattle.schema_validation.proofs.KindLemmas.{kind-found}
use Rattle.schema_validation.proofs.listed.is_input_type_listed.Goals as goal

pub returns-in-Some : goal.returns-in-Some
returns-in-Some g c =
    let table = c.args.table.now in
    c.is_input.ensures ∙ ap (λ o. option_map_or is_input_meta o false) c.in-Some.ensures ∙ sym (kind-found name_of_meta is_input_meta c.args.name.now table.types.now table.distinct)

pub returns-in-None : goal.returns-in-None
returns-in-None g c =
    let table = c.args.table.now in
    ap (λ o. option_map_or is_input_meta o false) c.in-None.ensures ∙ sym (kind-found name_of_meta is_input_meta c.args.name.now table.types.now table.distinct)
