use Rattle.std.proofs.lemmas.Result.{err_from_is_err_and}
use Rattle.std.proofs.Common.{option_map, ◌∙◌}
use Rattle.graphql_reader.specs.Arguments.{name_seen}
use Rattle.graphql_reader.proofs.AddedLaws.{field_added, field_left}
use Rattle.graphql_reader.proofs.SelectionLaws.{field_head_read}
use Rattle.graphql_reader.proofs.SelectionLeaveLaws.{field_fault, head_marks, head_nameless, head_parens, head_read}
use Rattle.graphql_reader.proofs.selections.read_field.Goals as goal

pub returns-clause-tree : goal.returns-clause-tree
returns-clause-tree c =
    let head = field_head_read c.args.max_depth (option_map name_seen c.in_ok-alias.alias) (name_seen c.in_ok-alias.name) c.in_ok-arguments.arguments c.in_ok-directives.directives c.args.tokens.now c.read_alias_and_name.new.tokens c.read_arguments.new.tokens c.read_directives.new.tokens c.in_ok-alias.ensures.tree c.in_ok-arguments.ensures.tree c.in_ok-directives.ensures.tree in
    field_added c.args.max_depth c.args.tokens.now c.read_directives.new.tokens c.in_ok-alias.alias c.in_ok-alias.name c.in_ok-arguments.arguments c.in_ok-directives.directives c.span_from-span.result c.is.result c.args.nodes.now.items c.reserve.new.self.items c.push_reserved.new.self.items c.reserve.ensures.items c.push_reserved.ensures.items head (c.span_from-span.ensures.start ∙ c.start-start.ensures) c.span_from-span.ensures.stop

pub returns-clause-leaves : goal.returns-clause-leaves
returns-clause-leaves c =
    field_left c.is.result (head_read (c.in_ok-alias.ensures.leaves c.args.max_depth) c.in_ok-arguments.ensures.leaves c.in_ok-directives.ensures.leaves) c.is.ensures

pub returns-in_err-alias-clause-stuck : goal.returns-in_err-alias-clause-stuck
returns-in_err-alias-clause-stuck c =
    let p = err_from_is_err_and c.from_residual-in_err-alias.result c.from_residual-in_err-alias.ensures.1 in
    rw (p.1, p.2) (λ depth. field_fault depth (head_nameless (c.in_err-alias.ensures.stuck c.args.max_depth)))

pub returns-in_err-arguments-clause-stuck : goal.returns-in_err-arguments-clause-stuck
returns-in_err-arguments-clause-stuck c =
    let p = err_from_is_err_and c.from_residual-in_err-arguments.result c.from_residual-in_err-arguments.ensures.1 in
    rw (p.1, p.2) (λ depth. field_fault depth (head_parens (c.in_ok-alias.ensures.leaves c.args.max_depth) c.in_err-arguments.ensures.stuck))

pub returns-in_err-directives-clause-stuck : goal.returns-in_err-directives-clause-stuck
returns-in_err-directives-clause-stuck c =
    let p = err_from_is_err_and c.from_residual-in_err-directives.result c.from_residual-in_err-directives.ensures.1 in
    rw (p.1, p.2) (λ depth. field_fault depth (head_marks (c.in_ok-alias.ensures.leaves c.args.max_depth) c.in_ok-arguments.ensures.leaves c.in_err-directives.ensures.stuck))
