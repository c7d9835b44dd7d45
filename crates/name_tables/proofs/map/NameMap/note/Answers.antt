use Rattle.std.proofs.Common.{◌∙◌, ap, sym}
use Rattle.name_tables.specs.Maps.{entries_of, value_at}
use Rattle.name_tables.proofs.Noting.{value_there, values_noted}
use Rattle.name_tables.proofs.map.NameMap.note.Goals as goal

pub returns-in-Some-clause-earlier : goal.returns-in-Some-clause-earlier
returns-in-Some-clause-earlier g c =
    c.value.ensures
    ∙ value_there c.args.self.now c.insert.new.self c.args.name c.args.value c.in_ok-index.ensures.adds c.in-Some.index (sym c.in-Some.is ∙ c.in_ok-index.ensures.earlier)

pub returns-in-Some-clause-noted : goal.returns-in-Some-clause-noted
returns-in-Some-clause-noted g c = values_noted c.args.self.now c.insert.new.self c.args.name c.args.value c.in_ok-index.ensures.adds

pub returns-in-None-clause-earlier : goal.returns-in-None-clause-earlier
returns-in-None-clause-earlier g c = ap (value_at (entries_of c.args.self.now)) (sym c.in-None.is ∙ c.in_ok-index.ensures.earlier)

pub returns-in-None-clause-noted : goal.returns-in-None-clause-noted
returns-in-None-clause-noted g c = values_noted c.args.self.now c.insert.new.self c.args.name c.args.value c.in_ok-index.ensures.adds
