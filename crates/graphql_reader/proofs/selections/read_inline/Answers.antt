use Rattle.std.proofs.lemmas.Result.{err_from_is_err_and}
use Rattle.std.proofs.Common.{◌∙◌}
use Rattle.graphql_reader.proofs.AddedLaws.{inline_added}
use Rattle.graphql_reader.proofs.SelectionLaws.{inline_read}
use Rattle.graphql_reader.proofs.SelectionLeaveLaws.{body_fault, body_read}
use Rattle.graphql_reader.proofs.selections.read_inline.Goals as goal

pub returns-clause-tree : goal.returns-clause-tree
returns-clause-tree c dots start read =
    let span = c.span_from-span.result in
    let head = inline_read c.args.max_depth span.start c.args.type_condition c.in_ok-directives.directives dots c.args.tokens.now c.read_directives.new.tokens (c.span_from-span.ensures.start ∙ start) read c.in_ok-directives.ensures.tree in
    inline_added c.args.max_depth dots c.read_directives.new.tokens c.args.type_condition c.in_ok-directives.directives c.new.result span c.args.nodes.now.items c.reserve.new.self.items c.push_reserved.new.self.items c.reserve.ensures.items c.push_reserved.ensures.items head

pub returns-clause-leaves : goal.returns-clause-leaves
returns-clause-leaves c depth = body_read depth c.in_ok-directives.ensures.leaves

pub returns-in_err-directives-clause-stuck : goal.returns-in_err-directives-clause-stuck
returns-in_err-directives-clause-stuck c =
    let p = err_from_is_err_and c.from_residual-in_err-directives.result c.from_residual-in_err-directives.ensures.1 in
    rw (p.1, p.2) (λ depth. body_fault depth c.in_err-directives.ensures.stuck)
