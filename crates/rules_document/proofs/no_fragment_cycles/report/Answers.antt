use Rattle.std.proofs.Common.{[], ◌∷◌}
use Rattle.walk.proofs.Kept.{full_stays}
use Rattle.fragment_graph.specs.DocumentCycles.{name_and_place}
use Rattle.rules_document.specs.NoFragmentCycles.{cycle_error}
use Rattle.rules_document.proofs.no_fragment_cycles.report.Goals as goal

pub returns-then-is_full-clause-ok : goal.returns-then-is_full-clause-ok
returns-then-is_full-clause-ok g c =
    full_stays c.args.ctx.now (cycle_error (name_and_place c.args.cycle.now) ∷ []) _ c.is_full.ensures c.if-is_full.true
