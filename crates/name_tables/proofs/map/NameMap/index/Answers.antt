use Rattle.std.proofs.Common.{◌∙◌, ap}
use Rattle.name_tables.specs.Looking.{index_by}
use Rattle.name_tables.proofs.map.NameMap.index.Goals as goal

pub returns-in-Some : goal.returns-in-Some
returns-in-Some g c = c.index_held.ensures ∙ ap (index_by c.args.self.now.entries.items c.args.self.now.others c.args.name.now) c.in-Some.ensures

pub returns-in-None : goal.returns-in-None
returns-in-None g c = c.other.ensures ∙ ap (index_by c.args.self.now.entries.items c.args.self.now.others c.args.name.now) c.in-None.ensures
