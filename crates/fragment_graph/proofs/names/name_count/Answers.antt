use Rattle.std.proofs.Common.{ap, length, sym, ◌∙◌}
use Rattle.std.proofs.lemmas.List.{length-map}
use Rattle.name_tables.specs.Maps.{entries_of}
use Rattle.fragment_graph.proofs.names.name_count.Goals as goal

pub returns : goal.returns
returns c =
    c.len.ensures ∙ ap (λ m. length (entries_of m)) c.deref.ensures
    ∙ sym (length-map (entries_of c.args.numbers.now.map.value) (λ e. e.0.now))
