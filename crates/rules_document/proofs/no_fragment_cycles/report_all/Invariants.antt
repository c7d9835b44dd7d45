use Rattle.std.proofs.Common.{◌≡◌, map, take}
use Rattle.walk.specs.ContextState.{with_errors}
use Rattle.fragment_graph.specs.DocumentCycles.{name_and_place}
use Rattle.rules_document.specs.NoFragmentCycles.{cycle_error}
use Rattle.rules_document.proofs.no_fragment_cycles.report_all.Given as goal

-- those that were seen are reported
abbrev pub invariant-loop-cycle : goal.invariant-loop-cycle
invariant-loop-cycle g l = l.ctx ≡ with_errors l.fn.ctx (map cycle_error (map name_and_place (take l.cycle-index l.reports)))
