use Rattle.std.proofs.Common.{◌-◌, length, string_bytes}
use Rattle.graphql_strings.proofs.StringLaws.{Unescaped}
use Rattle.graphql_strings.proofs.strings.string_value.Given as goal

abbrev pub invariant-loop-text : goal.invariant-loop-text
invariant-loop-text l = Unescaped l.raw l.start (string_bytes l.text)

abbrev pub decreases-loop-text : goal.decreases-loop-text
decreases-loop-text l = length l.raw - l.start
