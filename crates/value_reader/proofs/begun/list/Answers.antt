use Rattle.std.proofs.Common.{map, ap, ◌∙◌}
use Rattle.value_reader.specs.Machine.{items_of, span_of}
use Rattle.value_reader.specs.Seen.{value_seen}
use Rattle.value_reader.specs.Values.{list}
use Rattle.value_reader.proofs.Views.{list_seen}
use Rattle.value_reader.proofs.begun.list.Goals as goal

pub returns : goal.returns
returns c =
    list_seen c.shrink_to_fit.new.self (span_of c.args.start c.args.end)
    ∙ ap (λ vs. list (items_of (map value_seen vs)) (span_of c.args.start c.args.end)) c.shrink_to_fit.ensures.items
