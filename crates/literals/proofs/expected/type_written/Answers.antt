use Rattle.std.proofs.Common.{ap, sym, ◌∙◌, option_copied}
use Rattle.literals.proofs.expected.type_written.Goals as goal

pub returns-in-Some-clause-known : goal.returns-in-Some-clause-known
returns-in-Some-clause-known g c = (c.innermost_name.result.now, sym c.concrete_type_by_name.ensures ∙ ap option_copied c.in-Some.is)
