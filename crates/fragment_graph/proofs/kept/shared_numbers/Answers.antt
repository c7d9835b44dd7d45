use Rattle.std.proofs.Common.{◌∙◌, ap, map, sym}
use Rattle.name_tables.specs.Maps.{entries_of, index_of}
use Rattle.fragment_graph.proofs.Numbering.{number_is}
use Rattle.fragment_graph.proofs.kept.shared_numbers.Goals as goal

pub returns-clause-numbers : goal.returns-clause-numbers
returns-clause-numbers c = λ name. number_is _ name ∙ ap (λ m. index_of m name) c.in_ok-map.ensures.cases ∙ sym (number_is c.args.numbers.now name)

pub returns-clause-names : goal.returns-clause-names
returns-clause-names c = ap (λ m. map (λ e. e.0.now) (entries_of m)) c.in_ok-map.ensures.cases
