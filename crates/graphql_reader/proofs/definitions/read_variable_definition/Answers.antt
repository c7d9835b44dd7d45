use Rattle.std.proofs.lemmas.Result.{err_from_is_err_and}
use Rattle.std.proofs.Common.{option_map}
use Rattle.value_reader.specs.Seen.{value_seen}
use Rattle.graphql_reader.specs.Arguments.{name_seen}
use Rattle.graphql_reader.specs.Documents.{constant_rules}
use Rattle.graphql_reader.specs.Selections.{directives_seen}
use Rattle.graphql_reader.specs.Types.{type_seen}
use Rattle.graphql_reader.proofs.DocumentLaws.{default_begins, variable_defined}
use Rattle.graphql_reader.proofs.SelectionLaws.{directives_read}
use Rattle.graphql_reader.proofs.DocumentLeaveLaws.{definition_colon, definition_default, definition_marks, definition_read, definition_type, definition_variable}
use Rattle.graphql_reader.proofs.definitions.read_variable_definition.Goals as goal

pub returns-clause-tree : goal.returns-clause-tree
returns-clause-tree c =
    let limit = c.args.max_depth in
    let d = c.read_type.new.tokens in
    let e = c.read_default_value.new.tokens in
    let f = c.read_directives.new.tokens in
    variable_defined limit (record { name = name_seen c.in_ok-name.name; kind = type_seen c.in_ok-var_type.var_type; default = option_map value_seen c.in_ok-default_value.default_value; directives = directives_seen c.in_ok-directives.directives }) c.args.tokens.now c.read_variable.new.tokens c.expect.new.tokens d e f c.in_ok-name.ensures.tree c.in_ok-expect.ensures.taken c.in_ok-var_type.ensures.tree (default_begins limit d e c.in_ok-default_value.default_value c.in_ok-default_value.ensures.default) (directives_read (constant_rules limit) e f c.in_ok-directives.directives c.in_ok-directives.ensures.tree)

pub returns-clause-leaves : goal.returns-clause-leaves
returns-clause-leaves c =
    definition_read {b = c.read_variable.new.tokens} {c = c.expect.new.tokens} (c.in_ok-name.ensures.leaves c.args.max_depth) c.in_ok-expect.ensures.taken c.in_ok-var_type.ensures.leaves c.in_ok-default_value.ensures.leaves c.in_ok-directives.ensures.leaves

pub returns-in_err-name-clause-stuck : goal.returns-in_err-name-clause-stuck
returns-in_err-name-clause-stuck c =
    let p = err_from_is_err_and c.from_residual.result c.from_residual.ensures.1 in
    rw (p.1, p.2) (definition_variable (c.in_err-name.ensures.stuck c.args.max_depth))

pub returns-in_err-expect-clause-stuck : goal.returns-in_err-expect-clause-stuck
returns-in_err-expect-clause-stuck c =
    let p = err_from_is_err_and c.from_residual-in_err-expect.result c.from_residual-in_err-expect.ensures.1 in
    rw (p.1, p.2) (definition_colon (c.in_ok-name.ensures.leaves c.args.max_depth) c.in_err-expect.ensures.left c.in_err-expect.ensures.placed)

pub returns-in_err-var_type-clause-stuck : goal.returns-in_err-var_type-clause-stuck
returns-in_err-var_type-clause-stuck c =
    let p = err_from_is_err_and c.from_residual-in_err-var_type.result c.from_residual-in_err-var_type.ensures.1 in
    rw (p.1, p.2) (definition_type (c.in_ok-name.ensures.leaves c.args.max_depth) c.in_ok-expect.ensures.taken c.in_err-var_type.ensures.stuck)

pub returns-in_err-default_value-clause-stuck : goal.returns-in_err-default_value-clause-stuck
returns-in_err-default_value-clause-stuck c =
    let p = err_from_is_err_and c.from_residual-in_err-default_value.result c.from_residual-in_err-default_value.ensures.1 in
    rw (p.1, p.2) (definition_default {b = c.read_variable.new.tokens} {c = c.expect.new.tokens} (c.in_ok-name.ensures.leaves c.args.max_depth) c.in_ok-expect.ensures.taken c.in_ok-var_type.ensures.leaves c.in_err-default_value.ensures.stuck)

pub returns-in_err-directives-clause-stuck : goal.returns-in_err-directives-clause-stuck
returns-in_err-directives-clause-stuck c =
    let p = err_from_is_err_and c.from_residual-in_err-directives.result c.from_residual-in_err-directives.ensures.1 in
    rw (p.1, p.2) (definition_marks {b = c.read_variable.new.tokens} {c = c.expect.new.tokens} (c.in_ok-name.ensures.leaves c.args.max_depth) c.in_ok-expect.ensures.taken c.in_ok-var_type.ensures.leaves c.in_ok-default_value.ensures.leaves c.in_err-directives.ensures.stuck)
