use Rattle.language_types.specs.Types.{borrowed_shape}
use Rattle.variable_values.proofs.RowLaws.{known_names}
use Rattle.variable_values.proofs.rows.known_row.Goals as goal

pub returns-clause-known : goal.returns-clause-known
returns-clause-known g c = known_names c.args.schema.now (borrowed_shape c.args.expected) c.row_of.result c.requires c.row_of.ensures.name
