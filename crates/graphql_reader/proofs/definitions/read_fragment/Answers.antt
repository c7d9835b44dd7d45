use Rattle.std.proofs.lemmas.Result.{err_from_is_err_and}
use Rattle.std.proofs.Common.{refl, ◌∙◌}
use Rattle.graphql_lexer.specs.Lexical.{name}
use Rattle.graphql_reader.specs.Arguments.{name_seen}
use Rattle.graphql_reader.specs.Documents.{fragment_word}
use Rattle.graphql_reader.specs.Selections.{directives_seen, nodes_seen, open_rules}
use Rattle.graphql_reader.proofs.DocumentLaws.{fragment_read}
use Rattle.graphql_reader.proofs.PassedLaws.{advanced}
use Rattle.graphql_reader.proofs.SelectionLaws.{directives_read}
use Rattle.graphql_reader.proofs.DocumentLeaveLaws.{body_marks, body_read, body_set, fragment_body_fault, fragment_head_fault}
use Rattle.graphql_reader.proofs.DocumentLeaveLaws as leave
use Rattle.graphql_reader.proofs.definitions.read_fragment.Goals as goal

pub returns-clause-tree : goal.returns-clause-tree
returns-clause-tree c word =
    let limit = c.args.max_depth in
    let a = c.args.tokens.now in
    let b = c.advance.new.self in
    let d = c.read_fragment_head.new.tokens in
    let e = c.read_directives.new.tokens in
    fragment_read limit (record { name = name_seen c.in_ok-name.name; condition = name_seen c.in_ok-name.type_condition; directives = directives_seen c.in_ok-directives.directives; set = nodes_seen c.in_ok-selection_set.selection_set.items; span = c.span_from-span.result }) a b d e c.read_selection_set.new.tokens (advanced (name fragment_word) a b refl word c.advance.ensures.left c.advance.ensures.last_end) c.in_ok-name.ensures.tree (directives_read (open_rules limit) d e c.in_ok-directives.directives c.in_ok-directives.ensures.tree) c.in_ok-selection_set.ensures.tree (c.span_from-span.ensures.start ∙ c.start-start.ensures) c.span_from-span.ensures.stop

pub returns-clause-leaves : goal.returns-clause-leaves
returns-clause-leaves c word =
    leave.fragment_read c.advance.new.self (advanced (name fragment_word) c.args.tokens.now c.advance.new.self refl word c.advance.ensures.left c.advance.ensures.last_end) (c.in_ok-name.ensures.leaves c.args.max_depth) (body_read c.in_ok-directives.ensures.leaves c.in_ok-selection_set.ensures.leaves)

pub returns-in_err-name-clause-stuck : goal.returns-in_err-name-clause-stuck
returns-in_err-name-clause-stuck c =
    let p = err_from_is_err_and c.from_residual.result c.from_residual.ensures.1 in
    rw (p.1, p.2) (λ word. fragment_head_fault c.advance.new.self (advanced (name fragment_word) c.args.tokens.now c.advance.new.self refl word c.advance.ensures.left c.advance.ensures.last_end) (c.in_err-name.ensures.stuck c.args.max_depth))

pub returns-in_err-directives-clause-stuck : goal.returns-in_err-directives-clause-stuck
returns-in_err-directives-clause-stuck c =
    let p = err_from_is_err_and c.from_residual-in_err-directives.result c.from_residual-in_err-directives.ensures.1 in
    rw (p.1, p.2) (λ word. fragment_body_fault c.advance.new.self (advanced (name fragment_word) c.args.tokens.now c.advance.new.self refl word c.advance.ensures.left c.advance.ensures.last_end) (c.in_ok-name.ensures.leaves c.args.max_depth) (body_marks c.in_err-directives.ensures.stuck))

pub returns-in_err-selection_set-clause-stuck : goal.returns-in_err-selection_set-clause-stuck
returns-in_err-selection_set-clause-stuck c =
    let p = err_from_is_err_and c.from_residual-in_err-selection_set.result c.from_residual-in_err-selection_set.ensures.1 in
    rw (p.1, p.2) (λ word. fragment_body_fault c.advance.new.self (advanced (name fragment_word) c.args.tokens.now c.advance.new.self refl word c.advance.ensures.left c.advance.ensures.last_end) (c.in_ok-name.ensures.leaves c.args.max_depth) (body_set c.in_ok-directives.ensures.leaves c.in_err-selection_set.ensures.stuck))
