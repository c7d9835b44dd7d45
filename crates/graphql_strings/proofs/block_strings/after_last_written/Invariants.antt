use Rattle.std.proofs.Common.{◌≡◌, ◌≤◌, length, take, map}
use Rattle.graphql_strings.specs.BlockStrings.{without_last_blanks}
use Rattle.graphql_strings.proofs.block_strings.after_last_written.Given as goal

-- the lines from `stop` on are blank
abbrev pub invariant-loop-stop : goal.invariant-loop-stop
invariant-loop-stop l = record {
  blank : without_last_blanks (take l.stop (map (λ x. x.now) l.lines)) ≡ without_last_blanks (map (λ x. x.now) l.lines);
  within : l.stop ≤ length l.lines;
}

abbrev pub decreases-loop-stop : goal.decreases-loop-stop
decreases-loop-stop l = l.stop
