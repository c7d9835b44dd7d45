use Rattle.std.proofs.Common.{◌≡◌, ◌++◌, option_copied, map, take, string_bytes, ap, sym, ◌∙◌, arith}
use Rattle.std.specs.Prelude.{option_to_list}
use Rattle.schema.specs.Catalog.{type_in}
use Rattle.schema.specs.Possible.{types_named}
use Rattle.schema.proofs.PossibleLemmas.{named_more}
use Rattle.schema.proofs.model.schemas.SchemaTypeOf.types_of_names.Goals as goal

pub loop-name-preserved : goal.loop-name-preserved
loop-name-preserved g c =
    let s = c.args.self.now in
    let name = c.name-item.result in
    let found : option_copied c.concrete_type_by_name.result ≡ type_in (string_bytes name) s = c.concrete_type_by_name.ensures ∙ ap (λ n. type_in n s) c.as_str.ensures.value in
    c.in_ok-push_if_found.ensures
    ∙ ap (λ l. l ++ option_to_list (option_copied c.concrete_type_by_name.result)) c.loop-name.invariant
    ∙ ap (λ o. types_named s.types (map string_bytes (take c.loop-name.name-index c.args.names.now)) ++ option_to_list o) found
    ∙ sym (named_more s.types c.args.names.now c.loop-name.name-index name (omega arith) c.name-item.is)
