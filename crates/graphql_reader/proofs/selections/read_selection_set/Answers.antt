use Rattle.std.proofs.Common.{reverse, ap, subst}
use Rattle.std.proofs.lemmas.Result.{err_from_is_err_and}
use Rattle.graphql_reader.specs.OpenSets.{IsTurn}
use Rattle.graphql_reader.proofs.OpenSetLaws.{stands_first}
use Rattle.graphql_reader.proofs.selections.read_selection_set.Goals as goal

pub loop-turn-init : goal.loop-turn-init
loop-turn-init c = record {
  standing = stands_first (reverse c.clear-2.new.self.items) c.clear.new.self.items (ap reverse c.clear-2.ensures.items) c.clear.ensures.items c.in_ok-open_set.ensures.depth c.in_ok-open_set.ensures.taken c.in_ok-open_set.ensures.leaves;
}

pub loop-turn-preserved : goal.loop-turn-preserved
loop-turn-preserved c = record {
  standing = subst (IsTurn c.args.max_depth c.args.tokens.now (reverse c.step.new.firsts.items) c.step.new.nodes.items c.step.new.tokens) c.in-None.is (c.in_ok-turn.ensures.tree c.args.tokens.now c.loop-turn.invariant.standing);
}

pub returns-in-Some-clause-tree : goal.returns-in-Some-clause-tree
returns-in-Some-clause-tree c =
    let turn = subst (IsTurn c.args.max_depth c.args.tokens.now (reverse c.step.new.firsts.items) c.step.new.nodes.items c.step.new.tokens) c.in-Some.is (c.in_ok-turn.ensures.tree c.args.tokens.now c.loop-turn.invariant.standing) in
    turn.0

pub returns-in-Some-clause-leaves : goal.returns-in-Some-clause-leaves
returns-in-Some-clause-leaves c =
    let turn = subst (IsTurn c.args.max_depth c.args.tokens.now (reverse c.step.new.firsts.items) c.step.new.nodes.items c.step.new.tokens) c.in-Some.is (c.in_ok-turn.ensures.tree c.args.tokens.now c.loop-turn.invariant.standing) in
    turn.1

pub returns-in_err-open_set-clause-stuck : goal.returns-in_err-open_set-clause-stuck
returns-in_err-open_set-clause-stuck c =
    let p = err_from_is_err_and c.from_residual.result c.from_residual.ensures.1 in
    rw (p.1, p.2) c.in_err-open_set.ensures.stuck

pub returns-in_err-turn-clause-stuck : goal.returns-in_err-turn-clause-stuck
returns-in_err-turn-clause-stuck c =
    let p = err_from_is_err_and c.from_residual-in_err-turn.result c.from_residual-in_err-turn.ensures.1 in
    rw (p.1, p.2) (c.in_err-turn.ensures.stuck c.args.tokens.now c.loop-turn.invariant.standing)
