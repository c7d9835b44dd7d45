use Rattle.std.proofs.Common.{◌≡◌, map, take}
use Rattle.fragment_graph.specs.DocumentCycles.{name_and_place, told}
use Rattle.fragment_graph.proofs.cycles.tell_all.Given as goal

abbrev pub invariant-loop-report : goal.invariant-loop-report
invariant-loop-report l = map name_and_place l.all.items ≡ map (told l.numbers) (take l.report-index l.reports)
