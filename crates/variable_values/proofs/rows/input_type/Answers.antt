use Rattle.std.proofs.Common.{ap, sym, ◌∙◌, option_copied}
use Rattle.variable_values.proofs.RowLaws.{known_input, no_type}
use Rattle.variable_values.proofs.rows.input_type.Goals as goal

pub unreachable-requires : goal.unreachable-requires
unreachable-requires g c = no_type c.args.schema.now c.args.name.now (sym c.concrete_type_by_name.ensures ∙ ap option_copied c.in-None.is) c.requires

pub returns-clause-named : goal.returns-clause-named
returns-clause-named g c = sym c.concrete_type_by_name.ensures ∙ ap option_copied c.in-Some.is

pub returns-clause-known : goal.returns-clause-known
returns-clause-known g c = (c.args.name.now, sym c.concrete_type_by_name.ensures ∙ ap option_copied c.in-Some.is)

pub returns-clause-input : goal.returns-clause-input
returns-clause-input g c = known_input c.args.schema.now c.args.name.now c.in-Some.meta.now (sym c.concrete_type_by_name.ensures ∙ ap option_copied c.in-Some.is) c.requires
