use Rattle.std.proofs.Common.{length, refl}
use Rattle.graph_ways.proofs.Rounds.{start}
use Rattle.graph_ways.proofs.onward.onward_of.Goals as goal

pub search_all-requires-clause-idle : goal.search_all-requires-clause-idle
search_all-requires-clause-idle c =
    let g = c.args.graph.now in
    let s = c.in_ok-search.search in
    let e = c.in_ok-search.ensures in
    record {
      sound = start g c.args.order c.requires.order (length g) refl s.roots.items s.onward.items s.entered.items s.waiting.items
          e.roots e.onward e.entered;
      none = e.waiting;
    }

pub returns : goal.returns
returns c =
    let i = c.in_ok-search_all.ensures in
    record { inside = c.requires.graph; order = c.requires.order; sound = rw i.none at i.sound }
