use Rattle.std.proofs.Common.{ap, arith, length, refl}
use Rattle.std.proofs.lemmas.Result.{err_from_is_err_and, IfOk-weaker, MatchResult-weaker}
use Rattle.graphql_lexer.specs.Ahead.{left}
use Rattle.graphql_lexer.specs.Lexical.{punctuator}
use Rattle.graphql_lexer.specs.declared.lexer.Punctuator.TheVariants.{BraceClose}
use Rattle.graphql_reader.specs.Languages.{ASet, Anything}
use Rattle.graphql_reader.proofs.LeavesLaws.{taken_less}
use Rattle.graphql_reader.proofs.OpenSetLaws.{goes_on, part_fault}
use Rattle.graphql_reader.proofs.SelectionLeaveLaws.{memory_fault, part_less}
use Rattle.graphql_reader.proofs.selections.step.Goals as goal

pub returns-clause-tree : goal.returns-clause-tree
returns-clause-tree c first standing =
    c.in_ok-begin_set.ensures.tree first c.ends.new.tokens c.args.nodes.now.items (goes_on standing (c.if-ends.ensures.left refl) (c.if-ends.ensures.other refl)) c.in_ok-begins.ensures.tree c.in_ok-begins.ensures.leaves

pub returns-then-ends-clause-tree : goal.returns-then-ends-clause-tree
returns-then-ends-clause-tree c =
    IfOk-weaker c.end_set.result _ _ (λ turn h first standing. h c.args.max_depth first c.args.tokens.now standing (c.if-ends.ensures.taken refl)) c.end_set.ensures.tree

pub returns-then-ends-clause-less : goal.returns-then-ends-clause-less
returns-then-ends-clause-less c =
    IfOk-weaker c.end_set.result _ _ (λ turn h. taken_less (punctuator BraceClose) c.args.tokens.now c.ends.new.tokens (c.if-ends.ensures.taken refl)) c.end_set.ensures.tree

pub returns-then-ends-clause-stuck : goal.returns-then-ends-clause-stuck
returns-then-ends-clause-stuck c =
    MatchResult-weaker c.end_set.result c.end_set.ensures.memory (λ x h. h) (λ e m first standing. memory_fault c.args.max_depth Anything (ASet 0) first c.ends.new.tokens e m)

pub returns-clause-less : goal.returns-clause-less
returns-clause-less c =
    let (node, grown, part) = c.in_ok-begins.ensures.tree in
    omega (arith, part_less c.args.max_depth c.ends.new.tokens c.read_part.new.tokens c.in_ok-begins.begins node part, c.in_ok-begin_set.ensures.less, ap (λ t. length (left t)) (c.if-ends.ensures.left refl))

pub returns-in_err-begins-clause-stuck : goal.returns-in_err-begins-clause-stuck
returns-in_err-begins-clause-stuck c =
    let p = err_from_is_err_and c.from_residual.result c.from_residual.ensures.1 in
    rw (p.1, p.2) (λ first standing. part_fault (goes_on standing (c.if-ends.ensures.left refl) (c.if-ends.ensures.other refl)) c.in_err-begins.ensures.stuck)

pub returns-in_err-begin_set-clause-stuck : goal.returns-in_err-begin_set-clause-stuck
returns-in_err-begin_set-clause-stuck c =
    let p = err_from_is_err_and c.from_residual-in_err-begin_set.result c.from_residual-in_err-begin_set.ensures.1 in
    rw (p.1, p.2) (λ first standing. c.in_err-begin_set.ensures.stuck first c.ends.new.tokens c.args.nodes.now.items (goes_on standing (c.if-ends.ensures.left refl) (c.if-ends.ensures.other refl)) c.in_ok-begins.ensures.leaves)
