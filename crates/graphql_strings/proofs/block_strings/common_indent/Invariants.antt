use Rattle.std.proofs.Common.{◌≡◌, take, map, min}
use Rattle.std.specs.List.{reduce}
use Rattle.graphql_strings.proofs.BlockLaws.{indents}
use Rattle.graphql_strings.proofs.block_strings.common_indent.Given as goal

-- the least indent so far
abbrev pub invariant-loop-line : goal.invariant-loop-line
invariant-loop-line l = l.common ≡ reduce min (indents (take l.line-index (map (λ x. x.now) l.others)))
