use Rattle.std.proofs.lemmas.Result.{err_from_is_err_and}
use Rattle.std.proofs.Common.{◌<◌, length, ◌≡◌, [], ◌∷◌, ◌++◌, map, refl, subst, sym, ◌∙◌}
use Rattle.graphql_lexer.specs.Ahead.{left}
use Rattle.graphql_reader.specs.Documents.{SpellsVariableDefinition, variable_seen}
use Rattle.graphql_reader.proofs.ArgumentLaws.{Reached, reached_new, reached_push, pushed_some}
use Rattle.graphql_reader.proofs.DocumentLaws.{variables_read}
use Rattle.graphql_reader.proofs.DocumentLeaveLaws.{some_variable, variable_fault, variables_ended, variables_more}
use Rattle.graphql_reader.proofs.LeavesLaws.{alike_refl, begins_less, fault_behind, leaves_alike, leaves_then}
use Rattle.graphql_reader.proofs.definitions.read_variables_from.Goals as goal

pub loop-items-init : goal.loop-items-init
loop-items-init c = record {
  tree = reached_new (SpellsVariableDefinition c.args.max_depth) variable_seen (left c.args.tokens.now) c.new-items.result.items c.new-items.ensures.items;
  leaves = leaves_alike alike_refl;
}

pub loop-items-preserved : goal.loop-items-preserved
loop-items-preserved c =
    let S = SpellsVariableDefinition c.args.max_depth in
    let ts = left c.args.tokens.now in
    let items = c.push.new.self.items in
    let h : Reached S ts (map variable_seen items) (left c.read_variable_definition.new.tokens) =
    reached_push S variable_seen ts c.loop-items.items.items items c.in_ok-variable.variable (left c.loop-items.tokens) (left c.read_variable_definition.new.tokens) c.loop-items.invariant.tree c.in_ok-variable.ensures.tree c.in_ok-push.ensures.items in
    record {
      tree = subst (λ t. Reached S ts (map variable_seen items) (left t)) (sym (c.if-take.ensures.left refl).1) h;
      leaves = leaves_then c.loop-items.invariant.leaves (variables_more c.in_ok-variable.ensures.leaves (c.if-take.ensures.left refl));
    }

pub loop-items-smaller : goal.loop-items-smaller
loop-items-smaller c =
    let S = SpellsVariableDefinition c.args.max_depth (variable_seen c.in_ok-variable.variable) in
    let mid = c.read_variable_definition.new.tokens in
    subst (λ t. length (left t) < length (left c.loop-items.tokens)) (sym (c.if-take.ensures.left refl).1) (begins_less S (left mid) (left c.loop-items.tokens) (some_variable c.args.max_depth (variable_seen c.in_ok-variable.variable)) c.in_ok-variable.ensures.tree)

pub returns-then-take-clause-tree : goal.returns-then-take-clause-tree
returns-then-take-clause-tree c paren paren_open start =
    let S = SpellsVariableDefinition c.args.max_depth in
    let ts = left c.args.tokens.now in
    let items = c.shrink_to_fit.new.self.items in
    let mid = c.read_variable_definition.new.tokens in
    let grown : items ≡ c.loop-items.items.items ++ c.in_ok-variable.variable ∷ [] = c.shrink_to_fit.ensures.items ∙ c.in_ok-push.ensures.items in
    let h : Reached S ts (map variable_seen items) (left mid) =
    reached_push S variable_seen ts c.loop-items.items.items items c.in_ok-variable.variable (left c.loop-items.tokens) (left mid) c.loop-items.invariant.tree c.in_ok-variable.ensures.tree grown in
    variables_read c.args.max_depth (record { given = map variable_seen items; span = c.span_from-span.result }) paren c.args.tokens.now mid c.take.new.self paren_open h (pushed_some variable_seen c.loop-items.items.items items c.in_ok-variable.variable grown) (c.if-take.ensures.taken refl) (c.span_from-span.ensures.start ∙ start) c.span_from-span.ensures.stop

pub returns-then-take-clause-leaves : goal.returns-then-take-clause-leaves
returns-then-take-clause-leaves c =
    leaves_then c.loop-items.invariant.leaves (variables_ended c.in_ok-variable.ensures.leaves (c.if-take.ensures.taken refl))

pub returns-in_err-variable-clause-stuck : goal.returns-in_err-variable-clause-stuck
returns-in_err-variable-clause-stuck c =
    let p = err_from_is_err_and c.from_residual.result c.from_residual.ensures.1 in
    rw (p.1, p.2) (fault_behind c.loop-items.invariant.leaves (variable_fault c.in_err-variable.ensures.stuck))
