use Rattle.std.proofs.Common.{◌++◌, map, take}
use Rattle.rules_support.specs.FirstPlaces.{places_of}
use Rattle.rules_support.proofs.RepeatsSeen.{Seen}
use Rattle.rules_support.proofs.repeats.report_repeats.Given as goal

-- the names of the entries that were seen were noted, and the repeats among them reported
abbrev pub invariant-loop-entry : goal.invariant-loop-entry
invariant-loop-entry g l =
    Seen (λ name. (l.before ++ name) ++ l.after) (map g.N.HasName.named (take l.entry-index l.entry-items)) (places_of l.names) l.fn.ctx l.ctx
