use Rattle.std.proofs.Common.{ap, sym, ◌∙◌, is_some}
use Rattle.schema_validation.specs.Accepted.{is_named}
use Rattle.schema.proofs.RootLemmas.{copied_some}
use Rattle.schema.proofs.NamesBelow.{any-found}
use Rattle.schema.proofs.model.schemas.SchemaTypeOf.is_known.Goals as goal

pub returns : goal.returns
returns g c =
    c.is_some.ensures ∙ sym (copied_some c.concrete_type_by_name.result) ∙ ap is_some c.concrete_type_by_name.ensures ∙ sym (any-found (is_named c.args.name.now) c.args.self.now.types)
