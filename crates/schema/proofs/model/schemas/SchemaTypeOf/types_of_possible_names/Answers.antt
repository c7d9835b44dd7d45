use Rattle.std.proofs.Common.{◌≡◌, map, string_bytes, ap, sym, ◌∙◌}
use Rattle.std.specs.List.{filter}
use Rattle.std.proofs.lemmas.Result.{IfOk-weaker}
use Rattle.meta.specs.Kinds.{name_of_meta}
use Rattle.schema.specs.Possible.{is_implementer, possible_names, types_named}
use Rattle.schema.proofs.PossibleLemmas.{refound}
use Rattle.schema.proofs.model.schemas.SchemaTypeOf.types_of_possible_names.Goals as goal

pub returns-in-Interface : goal.returns-in-Interface
returns-in-Interface g c =
    let s = c.args.self.now in
    let i = string_bytes c.in-Interface.interface.name in
    IfOk-weaker c.implementers.result
    (λ v. map (λ r. r.now) v.items ≡ filter (is_implementer c.as_str.result.now) s.types)
    (λ v. map (λ r. r.now) v.items ≡ types_named s.types (possible_names s.types c.args.meta.now))
    (λ v h. h ∙ ap (λ n. filter (is_implementer n) s.types) c.as_str.ensures.value ∙ refound name_of_meta (is_implementer i) s.types s.accepted.named s.accepted.distinct ∙ ap (λ m. types_named s.types (possible_names s.types m)) (sym c.in-Interface.is)) c.implementers.ensures
