use Rattle.std.proofs.Common.{false, ap, sym, ◌∙◌}
use Rattle.std.specs.Option.{option_map_or}
use Rattle.meta.specs.Kinds.{name_of_meta}
use Rattle.schema.specs.Possible.{is_implementer}
use Rattle.schema.proofs.PossibleLemmas.{among-filter}
use Rattle.schema.proofs.model.schemas.SchemaTypeOf.is_implementer_named.Goals as goal

pub returns-in-Some : goal.returns-in-Some
returns-in-Some g c =
    let i = c.args.interface.now in
    let s = c.args.self.now in
    c.implements.ensures ∙ ap (λ o. option_map_or (is_implementer i) o false) c.in-Some.ensures ∙ sym (among-filter name_of_meta (is_implementer i) c.args.name.now s.types s.accepted.distinct)

pub returns-in-None : goal.returns-in-None
returns-in-None g c =
    let i = c.args.interface.now in
    let s = c.args.self.now in
    ap (λ o. option_map_or (is_implementer i) o false) c.in-None.ensures ∙ sym (among-filter name_of_meta (is_implementer i) c.args.name.now s.types s.accepted.distinct)
