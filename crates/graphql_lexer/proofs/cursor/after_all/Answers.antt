use Rattle.std.proofs.Common.{arith, rules}
use Rattle.std.proofs.lemmas.Grind.{common_steps}
use Rattle.std.proofs.lemmas.List.Sums.{fold_more}
use Rattle.graphql_lexer.specs.Places.{after}
use Rattle.graphql_lexer.proofs.cursor.after_all.Goals as goal

pub loop-byte-preserved : goal.loop-byte-preserved
loop-byte-preserved c =
    let more = fold_more after c.args.before c.args.bytes.now c.loop-byte.byte-index 0 (omega arith) in
    record {
      so_far = grind (arith, common_steps);
      index = omega arith;
      counts = search rules;
    }
