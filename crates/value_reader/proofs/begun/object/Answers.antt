use Rattle.std.proofs.Common.{map, ap, ◌∙◌}
use Rattle.value_reader.specs.Machine.{fields_of, span_of}
use Rattle.value_reader.specs.Seen.{entry_seen}
use Rattle.value_reader.specs.Values.{object}
use Rattle.value_reader.proofs.Views.{object_seen}
use Rattle.value_reader.proofs.begun.object.Goals as goal

pub returns : goal.returns
returns c =
    object_seen c.shrink_to_fit.new.self (span_of c.args.start c.args.end)
    ∙ ap (λ es. object (fields_of (map entry_seen es)) (span_of c.args.start c.args.end)) c.shrink_to_fit.ensures.items
