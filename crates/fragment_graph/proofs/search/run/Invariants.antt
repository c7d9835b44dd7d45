use Rattle.std.proofs.Common.{[]}
use Rattle.fragment_graph.specs.Sound.{SoundAlong, Keeps, steps_left}
use Rattle.fragment_graph.proofs.search.run.Given as goal

abbrev pub invariant-loop-step : goal.invariant-loop-step
invariant-loop-step l = SoundAlong l.graph l.search.path.items [] l.search × Keeps l.fn.search l.search

abbrev pub decreases-loop-step : goal.decreases-loop-step
decreases-loop-step l = steps_left l.graph l.search
