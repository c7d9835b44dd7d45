use Rattle.std.proofs.Common.{◌&&◌, false, ap, ◌∙◌}
use Rattle.std.specs.Option.{option_map_or}
use Rattle.meta.specs.Kinds.{is_abstract_meta}
use Rattle.schema.specs.Possible.{is_among, possible_names}
use Rattle.schema.proofs.model.schemas.SchemaTypeOf.may_be_named.Goals as goal

pub returns-in-Some : goal.returns-in-Some
returns-in-Some g c =
    c.is_abstract_and_possible.ensures
    ∙ ap (λ o. option_map_or (λ t. is_abstract_meta t && is_among (possible_names c.args.self.now.types t) c.args.sub_type_name.now) o false) c.in-Some.ensures

pub returns-in-None : goal.returns-in-None
returns-in-None g c =
    ap (λ o. option_map_or (λ t. is_abstract_meta t && is_among (possible_names c.args.self.now.types t) c.args.sub_type_name.now) o false) c.in-None.ensures
