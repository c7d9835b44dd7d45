use Rattle.language.proofs.InsideTree.{inside_by_set}
use Rattle.language.proofs.tree.Selection.into_set.Goals as goal

pub returns-in-Field : goal.returns-in-Field
returns-in-Field g c = inside_by_set c.args.self c.in-Field.field c.set_of_field.result c.in-Field.is c.set_of_field.ensures
