use Rattle.std.proofs.Common.{ap, ◌∙◌}
use Rattle.name_tables.specs.Looking.{is_named}
use Rattle.name_tables.proofs.map.NameMap.is_at.Goals as goal

pub returns-in-Some : goal.returns-in-Some
returns-in-Some g c = c.eq.ensures ∙ ap (λ e. is_named e c.args.name.now) c.in-Some.ensures

pub returns-in-None : goal.returns-in-None
returns-in-None g c = ap (λ e. is_named e c.args.name.now) c.in-None.ensures
