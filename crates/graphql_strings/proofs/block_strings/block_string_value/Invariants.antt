use Rattle.std.proofs.Common.{◌≡◌, ◌≤◌, ◌⊎◌, map, string_bytes}
use Rattle.graphql_strings.proofs.BlockValue.{written}
use Rattle.graphql_strings.proofs.block_strings.block_string_value.Given as goal

-- the lines so far are written
abbrev pub invariant-loop-index : goal.invariant-loop-index
invariant-loop-index l = record {
  so_far : string_bytes l.text ≡ written (map (λ x. x.now) l.lines) l.first l.index;
  place : (l.index ≤ l.stop) ⊎ (l.index ≡ l.first);
}
