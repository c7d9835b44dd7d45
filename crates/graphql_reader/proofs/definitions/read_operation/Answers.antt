use Rattle.std.proofs.lemmas.Result.{err_from_is_err_and}
use Rattle.std.proofs.Common.{option_map, refl, ◌∙◌}
use Rattle.graphql_lexer.specs.Lexical.{name}
use Rattle.graphql_reader.specs.Arguments.{name_seen}
use Rattle.graphql_reader.specs.Documents.{keyword, variables_seen}
use Rattle.graphql_reader.specs.Selections.{directives_seen, nodes_seen, open_rules}
use Rattle.graphql_reader.proofs.DocumentLaws.{long_read}
use Rattle.graphql_reader.proofs.PassedLaws.{advanced}
use Rattle.graphql_reader.proofs.SelectionLaws.{directives_read}
use Rattle.graphql_reader.proofs.DocumentLeaveLaws.{body_marks, body_read, body_set, operation_fault, operation_read, rest_name_fault, rest_variables, rest_variables_fault}
use Rattle.graphql_reader.proofs.LeavesLaws.{fault_behind, leaves_then}
use Rattle.graphql_reader.proofs.definitions.read_operation.Goals as goal

pub returns-clause-tree : goal.returns-clause-tree
returns-clause-tree c word =
    let limit = c.args.max_depth in
    let a = c.args.tokens.now in
    let b = c.advance.new.self in
    let d = c.read_variable_definitions.new.tokens in
    let e = c.read_directives.new.tokens in
    long_read limit (record { kind = c.args.operation_type; name = option_map name_seen c.in_ok-name.name; variables = option_map variables_seen c.in_ok-variable_definitions.variable_definitions; directives = directives_seen c.in_ok-directives.directives; set = nodes_seen c.in_ok-selection_set.selection_set.items; span = c.span_from-span.result }) a b c.read_operation_name.new.tokens d e c.read_selection_set.new.tokens (advanced (name (keyword c.args.operation_type)) a b refl word c.advance.ensures.left c.advance.ensures.last_end) c.in_ok-name.ensures.tree c.in_ok-variable_definitions.ensures.tree (directives_read (open_rules limit) d e c.in_ok-directives.directives c.in_ok-directives.ensures.tree) c.in_ok-selection_set.ensures.tree (c.span_from-span.ensures.start ∙ c.start-start.ensures) c.span_from-span.ensures.stop

pub returns-clause-leaves : goal.returns-clause-leaves
returns-clause-leaves c word =
    operation_read c.advance.new.self c.args.operation_type (advanced (name (keyword c.args.operation_type)) c.args.tokens.now c.advance.new.self refl word c.advance.ensures.left c.advance.ensures.last_end) (leaves_then (rest_variables (c.in_ok-name.ensures.leaves c.args.max_depth) c.in_ok-variable_definitions.ensures.leaves) (body_read c.in_ok-directives.ensures.leaves c.in_ok-selection_set.ensures.leaves))

pub returns-in_err-name-clause-stuck : goal.returns-in_err-name-clause-stuck
returns-in_err-name-clause-stuck c =
    let p = err_from_is_err_and c.from_residual.result c.from_residual.ensures.1 in
    rw (p.1, p.2) (λ word. operation_fault c.advance.new.self c.args.operation_type (advanced (name (keyword c.args.operation_type)) c.args.tokens.now c.advance.new.self refl word c.advance.ensures.left c.advance.ensures.last_end) (rest_name_fault (c.in_err-name.ensures.stuck c.args.max_depth)))

pub returns-in_err-variable_definitions-clause-stuck : goal.returns-in_err-variable_definitions-clause-stuck
returns-in_err-variable_definitions-clause-stuck c =
    let p = err_from_is_err_and c.from_residual-in_err-variable_definitions.result c.from_residual-in_err-variable_definitions.ensures.1 in
    rw (p.1, p.2) (λ word. operation_fault c.advance.new.self c.args.operation_type (advanced (name (keyword c.args.operation_type)) c.args.tokens.now c.advance.new.self refl word c.advance.ensures.left c.advance.ensures.last_end) (rest_variables_fault (c.in_ok-name.ensures.leaves c.args.max_depth) c.in_err-variable_definitions.ensures.stuck))

pub returns-in_err-directives-clause-stuck : goal.returns-in_err-directives-clause-stuck
returns-in_err-directives-clause-stuck c =
    let p = err_from_is_err_and c.from_residual-in_err-directives.result c.from_residual-in_err-directives.ensures.1 in
    rw (p.1, p.2) (λ word. operation_fault c.advance.new.self c.args.operation_type (advanced (name (keyword c.args.operation_type)) c.args.tokens.now c.advance.new.self refl word c.advance.ensures.left c.advance.ensures.last_end) (fault_behind (rest_variables (c.in_ok-name.ensures.leaves c.args.max_depth) c.in_ok-variable_definitions.ensures.leaves) (body_marks c.in_err-directives.ensures.stuck)))

pub returns-in_err-selection_set-clause-stuck : goal.returns-in_err-selection_set-clause-stuck
returns-in_err-selection_set-clause-stuck c =
    let p = err_from_is_err_and c.from_residual-in_err-selection_set.result c.from_residual-in_err-selection_set.ensures.1 in
    rw (p.1, p.2) (λ word. operation_fault c.advance.new.self c.args.operation_type (advanced (name (keyword c.args.operation_type)) c.args.tokens.now c.advance.new.self refl word c.advance.ensures.left c.advance.ensures.last_end) (fault_behind (rest_variables (c.in_ok-name.ensures.leaves c.args.max_depth) c.in_ok-variable_definitions.ensures.leaves) (body_set c.in_ok-directives.ensures.leaves c.in_err-selection_set.ensures.stuck)))
