use Rattle.std.proofs.Common.{is_some, ap, sym, ◌∙◌}
use Rattle.schema_validation.specs.Accepted.{is_named}
use Rattle.schema_validation.proofs.TableLemmas.{any-found, copied_some}
use Rattle.schema_validation.proofs.listed.is_type_listed.Goals as goal

pub returns : goal.returns
returns g c = c.is_some.ensures ∙ sym (copied_some c.get.result) ∙ ap is_some c.get.ensures ∙ sym (any-found (is_named c.args.name.now) c.args.table.now.types.now)
