use Rattle.std.proofs.Common.{refl}
use Rattle.graphql_strings.proofs.BlockLaws.{line_none}
use Rattle.graphql_strings.proofs.block_strings.write_line.Goals as goal

pub loop-index-init : goal.loop-index-init
loop-index-init c = record { placed = line_none c.args.line.now c.utf8.line; so_far = refl }
