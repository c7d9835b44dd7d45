use Rattle.std.proofs.Common.{length, refl, slice_set}
use Rattle.std.proofs.lemmas.Option.{slice_get_read}
use Rattle.graph_ways.proofs.Entries.{enters_one}
use Rattle.graph_ways.proofs.entering.enter.Goals as goal

pub returns : goal.returns
returns c =
    let es = c.args.entering.now.items in
    let l = c.args.link in
    let new = c.push.new.self in
    enters_one es (slice_set es l.edge.target (record { links = new })) l c.index_mut.result.now (record { links = new })
    (slice_get_read es (length es) l.edge.target c.index_mut.result.now refl c.requires c.index_mut.ensures.value) refl
    c.in_ok-push.ensures.items
