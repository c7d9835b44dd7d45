use Rattle.std.proofs.lemmas.Result.{err_from_is_err_and}
use Rattle.std.proofs.Common.{◌<◌, length, ◌≡◌, [], ◌∷◌, ◌++◌, map, refl, subst, sym, ◌∙◌}
use Rattle.graphql_lexer.specs.Ahead.{left}
use Rattle.value_reader.specs.Seen.{rules_of}
use Rattle.graphql_reader.specs.Arguments.{argument_seen, SpellsArgument}
use Rattle.graphql_reader.proofs.ArgumentLaws.{Reached, reached_new, reached_push, pushed_some, arguments_read}
use Rattle.graphql_reader.proofs.ArgumentLeaveLaws.{parens_absent, parens_begun, parens_ended, parens_fault, parens_more, some_argument}
use Rattle.graphql_reader.proofs.LeavesLaws.{begins_less, fault_behind, leaves_then}
use Rattle.graphql_reader.proofs.arguments.read_arguments.Goals as goal

pub loop-items-init : goal.loop-items-init
loop-items-init c = record {
  tree = reached_new (SpellsArgument (rules_of c.args.variables c.args.max_depth)) argument_seen (left c.take.new.self) c.in_ok-items.items.items c.in_ok-items.ensures.items;
  leaves = parens_begun c.args.variables (c.if-not-take.ensures.taken refl);
}

pub loop-items-preserved : goal.loop-items-preserved
loop-items-preserved c =
    let rules = rules_of c.args.variables c.args.max_depth in
    let ts = left c.take.new.self in
    let items = c.push.new.self.items in
    let h : Reached (SpellsArgument rules) ts (map argument_seen items) (left c.read_argument.new.tokens) =
    reached_push (SpellsArgument rules) argument_seen ts c.loop-items.items.items items c.in_ok-argument.argument (left c.loop-items.tokens) (left c.read_argument.new.tokens) c.loop-items.invariant.tree c.in_ok-argument.ensures.argument c.in_ok-push.ensures.items in
    record {
      tree = subst (λ t. Reached (SpellsArgument rules) ts (map argument_seen items) (left t)) (sym (c.if-take.ensures.left refl).1) h;
      leaves = leaves_then c.loop-items.invariant.leaves (parens_more c.args.variables c.in_ok-argument.ensures.leaves (c.if-take.ensures.left refl));
    }

pub loop-items-smaller : goal.loop-items-smaller
loop-items-smaller c =
    let rules = rules_of c.args.variables c.args.max_depth in
    let mid = c.read_argument.new.tokens in
    subst (λ t. length (left t) < length (left c.loop-items.tokens)) (sym (c.if-take.ensures.left refl).1) (begins_less (SpellsArgument rules (argument_seen c.in_ok-argument.argument)) (left mid) (left c.loop-items.tokens) (some_argument rules (argument_seen c.in_ok-argument.argument)) c.in_ok-argument.ensures.argument)

pub returns-then-take-clause-tree : goal.returns-then-take-clause-tree
returns-then-take-clause-tree c =
    let rules = rules_of c.args.variables c.args.max_depth in
    let ts = left c.take.new.self in
    let items = c.shrink_to_fit.new.self.items in
    let grown : items ≡ c.loop-items.items.items ++ c.in_ok-argument.argument ∷ [] = c.shrink_to_fit.ensures.items ∙ c.in_ok-push.ensures.items in
    let h : Reached (SpellsArgument rules) ts (map argument_seen items) (left c.read_argument.new.tokens) =
    reached_push (SpellsArgument rules) argument_seen ts c.loop-items.items.items items c.in_ok-argument.argument (left c.loop-items.tokens) (left c.read_argument.new.tokens) c.loop-items.invariant.tree c.in_ok-argument.ensures.argument grown in (
      arguments_read rules (map argument_seen items) c.span_from-span.result c.args.tokens.now c.take.new.self c.read_argument.new.tokens c.take-in-loop-items.new.self (c.if-not-take.ensures.taken refl) h (pushed_some argument_seen c.loop-items.items.items items c.in_ok-argument.argument grown) (c.if-take.ensures.taken refl) (c.span_from-span.ensures.start ∙ c.start-start.ensures) c.span_from-span.ensures.stop,
      c.span_from-span.ensures.stop,
    )

pub returns-then-take-clause-leaves : goal.returns-then-take-clause-leaves
returns-then-take-clause-leaves c =
    leaves_then c.loop-items.invariant.leaves (parens_ended c.args.variables c.in_ok-argument.ensures.leaves (c.if-take.ensures.taken refl))

pub returns-then-not-take-clause-leaves : goal.returns-then-not-take-clause-leaves
returns-then-not-take-clause-leaves c = parens_absent c.args.variables (c.if-not-take.ensures.left refl)

pub returns-in_err-argument-clause-stuck : goal.returns-in_err-argument-clause-stuck
returns-in_err-argument-clause-stuck c =
    let p = err_from_is_err_and c.from_residual-in_err-argument.result c.from_residual-in_err-argument.ensures.1 in
    rw (p.1, p.2) (fault_behind c.loop-items.invariant.leaves (parens_fault c.args.variables c.in_err-argument.ensures.stuck))
