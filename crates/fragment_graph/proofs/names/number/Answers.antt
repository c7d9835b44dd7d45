use Rattle.std.proofs.Common.{◌∙◌, ap, sym}
use Rattle.name_tables.specs.Maps.{index_of}
use Rattle.fragment_graph.proofs.Numbering.{number_is}
use Rattle.fragment_graph.proofs.names.number.Goals as goal

pub returns : goal.returns
returns c = c.index.ensures ∙ ap (λ m. index_of m c.args.name.now) c.deref.ensures ∙ sym (number_is c.args.numbers.now c.args.name.now)
