use Rattle.std.proofs.lemmas.Result.{err_from_is_err_and}
use Rattle.graphql_lexer.specs.Ahead.{ahead_of, left}
use Rattle.value_reader.specs.Machine.{step}
use Rattle.value_reader.specs.Seen.{rules_of, stack_seen, value_seen}
use Rattle.value_reader.proofs.ReadLoop.{read_begins, read_going, read_done, read_once, read_none, read_fault, read_less, read_placed}
use Rattle.value_reader.proofs.reader.read_parts.Goals as goal

pub loop-parts-init : goal.loop-parts-init
loop-parts-init c = read_begins (rules_of c.args.variables c.args.max_depth) (left c.args.tokens.now) c.new-parts.result c.new-parts.ensures.items

pub loop-parts-preserved : goal.loop-parts-preserved
loop-parts-preserved c =
    let l = c.loop-parts in
    let r = c.read_token in
    read_going (rules_of c.args.variables c.args.max_depth) (left c.args.tokens.now) (stack_seen l.parts) l.tokens r.new.tokens r.new.parts c.in_ok-turn.turn l.invariant c.in_ok-turn.ensures.turn c.in-None.is c.in_ok-turn.ensures.taken

pub loop-parts-smaller : goal.loop-parts-smaller
loop-parts-smaller c = read_less c.loop-parts.tokens c.read_token.new.tokens c.in_ok-turn.ensures.taken

pub returns-in-Some-clause-value : goal.returns-in-Some-clause-value
returns-in-Some-clause-value c =
    let l = c.loop-parts in
    let r = c.read_token in
    read_done (rules_of c.args.variables c.args.max_depth) (left c.args.tokens.now) (stack_seen l.parts) l.tokens r.new.tokens r.new.parts c.in_ok-turn.turn c.in-Some.value l.invariant c.in_ok-turn.ensures.turn c.in-Some.is c.in_ok-turn.ensures.taken

pub returns-in-Some-clause-only : goal.returns-in-Some-clause-only
returns-in-Some-clause-only c w rest b =
    let l = c.loop-parts in
    let r = c.read_token in
    let rules = rules_of c.args.variables c.args.max_depth in
    let ts = left c.args.tokens.now in
    let read = read_done rules ts (stack_seen l.parts) l.tokens r.new.tokens r.new.parts c.in_ok-turn.turn c.in-Some.value l.invariant c.in_ok-turn.ensures.turn c.in-Some.is c.in_ok-turn.ensures.taken in
    read_once rules ts r.new.tokens (value_seen c.in-Some.value) w rest read b

pub returns-in_err-turn-clause-none : goal.returns-in_err-turn-clause-none
returns-in_err-turn-clause-none c =
    let l = c.loop-parts in
    let rules = rules_of c.args.variables c.args.max_depth in
    let p = err_from_is_err_and c.from_residual.result c.from_residual.ensures.1 in
    rw (p.1, p.2) (read_none rules (left c.args.tokens.now) (stack_seen l.parts) l.tokens _ l.invariant c.in_err-turn.ensures.refused)

pub returns-in_err-turn-clause-fault : goal.returns-in_err-turn-clause-fault
returns-in_err-turn-clause-fault c =
    let l = c.loop-parts in
    let rules = rules_of c.args.variables c.args.max_depth in
    let p = err_from_is_err_and c.from_residual.result c.from_residual.ensures.1 in
    rw (p.1, p.2) (read_fault rules (left c.args.tokens.now) (stack_seen l.parts) l.tokens c.read_token.new.tokens _ l.invariant c.in_err-turn.ensures.refused c.in_err-turn.ensures.left)

pub returns-in_err-turn-clause-placed : goal.returns-in_err-turn-clause-placed
returns-in_err-turn-clause-placed c =
    let l = c.loop-parts in
    let fs = stack_seen l.parts in
    let p = err_from_is_err_and c.from_residual.result c.from_residual.ensures.1 in
    rw (p.1, p.2) (read_placed fs l.tokens c.read_token.new.tokens (step (rules_of c.args.variables c.args.max_depth) fs (ahead_of l.tokens)) _ c.in_err-turn.ensures.refused c.in_err-turn.ensures.left)
