use Rattle.std.proofs.Common.{◌≡◌, ◌++◌, string_bytes}
use Rattle.graphql_strings.specs.BlockScanning.{LineAt, left_of}
use Rattle.graphql_strings.specs.BlockStrings.{unescaped}
use Rattle.graphql_strings.proofs.block_strings.write_line.Given as goal

abbrev pub invariant-loop-index : goal.invariant-loop-index
invariant-loop-index l = record {
  placed : LineAt l.line l.index l.start;
  so_far : string_bytes l.text ++ left_of l.line l.index l.start ≡ string_bytes l.fn.text ++ unescaped l.line;
}
