use Rattle.graph_ways.proofs.Entries.{bare_more}
use Rattle.graph_ways.proofs.entering.no_links.Goals as goal

pub loop-preserved : goal.loop-preserved
loop-preserved c =
    bare_more c.loop.counter c.loop.entering.items c.push.new.self.items _ c.in_ok-push.ensures.items c.new.ensures.items c.loop.invariant
