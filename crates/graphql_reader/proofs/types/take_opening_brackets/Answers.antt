use Rattle.std.proofs.Common.{[], add-one, refl}
use Rattle.std.proofs.lemmas.Result.{err_from_is_err_and}
use Rattle.graphql_lexer.specs.Lexical.{punctuator}
use Rattle.graphql_lexer.specs.declared.lexer.Punctuator.TheVariants.{BracketOpen}
use Rattle.graphql_reader.proofs.LeavesLaws.{fault_behind, leaves_alike, leaves_then}
use Rattle.graphql_reader.proofs.PassedLaws.{advanced}
use Rattle.graphql_reader.proofs.TypeLaws.{bracket_more}
use Rattle.graphql_reader.proofs.TypeLeaveLaws.{bracket_deep, bracket_taken, opened_first}
use Rattle.graphql_reader.proofs.types.take_opening_brackets.Goals as goal

pub loop-taken-init : goal.loop-taken-init
loop-taken-init c = record { tree = ([], (refl, refl), refl); leaves = leaves_alike opened_first }

pub loop-taken-preserved : goal.loop-taken-preserved
loop-taken-preserved c =
    let l = c.loop-taken in
    let t = advanced (punctuator BracketOpen) l.tokens c.advance.new.self refl (c.if-not-is.ensures.0 refl) c.advance.ensures.left c.advance.ensures.last_end in
    rw add-one (record {
      tree = bracket_more c.args.max_depth l.taken c.args.tokens.now l.tokens c.advance.new.self l.invariant.tree c.in_ok-check_depth.ensures.depth t;
      leaves = leaves_then l.invariant.leaves (bracket_taken l.taken t);
    })

pub returns-in_err-check_depth-clause-stuck : goal.returns-in_err-check_depth-clause-stuck
returns-in_err-check_depth-clause-stuck c =
    let l = c.loop-taken in
    let p = err_from_is_err_and c.from_residual.result c.from_residual.ensures.1 in
    rw (p.1, p.2) (fault_behind l.invariant.leaves (bracket_deep l.taken (c.if-not-is.ensures.0 refl) c.in_err-check_depth.ensures.deep c.in_err-check_depth.ensures.placed))
