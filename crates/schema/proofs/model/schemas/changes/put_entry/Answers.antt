use Rattle.std.proofs.Common.{ap, ◌∙◌}
use Rattle.std.specs.Prelude.{map}
use Rattle.schema.proofs.ChangeLemmas.{with-inserted, keyed-inserted}
use Rattle.schema.proofs.model.schemas.changes.put_entry.Goals as goal

pub returns-in-Ok-clause-listed : goal.returns-in-Ok-clause-listed
returns-in-Ok-clause-listed g c =
    ap (map (λ e. e.1)) c.in-Ok.ensures.entries ∙ with-inserted c.in_ok-key.key c.args.directive (c.in_ok-key.ensures.ok ∙ c.as_str.ensures.value) c.args.directives.now.entries c.requires

pub returns-in-Ok-clause-keyed : goal.returns-in-Ok-clause-keyed
returns-in-Ok-clause-keyed g c =
    rw c.in-Ok.ensures.entries (keyed-inserted c.in_ok-key.key c.args.directive (c.in_ok-key.ensures.ok ∙ c.as_str.ensures.value) c.args.directives.now.entries c.requires)
