use Rattle.std.proofs.lemmas.Result.{err_from_is_err_and}
use Rattle.std.proofs.Common.{◌≡◌, true, false, refl, ap, ◌∙◌}
use Rattle.graphql_lexer.specs.Lexical.{name}
use Rattle.graphql_reader.specs.Arguments.{name_seen}
use Rattle.graphql_reader.specs.Selections.{SpellsCondition, SpellsFragmentName}
use Rattle.graphql_reader.proofs.PassedLaws.{reads_then}
use Rattle.graphql_reader.proofs.SelectionLaws.{condition_read, fragment_name}
use Rattle.graphql_lexer.specs.Ahead.{ahead_of}
use Rattle.graphql_reader.proofs.LeavesLaws.{placed_fault}
use Rattle.graphql_reader.proofs.DocumentLeaveLaws.{head_done, head_nameless, head_on, head_unconditioned, head_untyped}
use Rattle.graphql_reader.proofs.definitions.read_fragment_head.Goals as goal

pub returns-clause-tree : goal.returns-clause-tree
returns-clause-tree c =
    let k = name_seen c.in_ok-fragment.fragment in
    let w = name_seen c.in_ok-condition.condition in
    let a = c.args.tokens.now in
    let b = c.name.new.tokens in
    reads_then (SpellsFragmentName k) (SpellsCondition w) a b c.name-2.new.tokens (fragment_name k a b (λ e. let f : false ≡ true = c.if-is_word.ensures.1 (c.in_ok-fragment.ensures.taken.0 ∙ ap name e) in cc) c.in_ok-fragment.ensures.taken c.in_ok-fragment.ensures.span) (condition_read w b c.take_word.new.self c.name-2.new.tokens (c.if-not-take_word.ensures.taken refl) c.in_ok-condition.ensures.taken c.in_ok-condition.ensures.span)

pub returns-clause-leaves : goal.returns-clause-leaves
returns-clause-leaves c limit =
    head_done c.name.new.tokens c.take_word.new.self c.in_ok-fragment.fragment.item.now c.in_ok-condition.condition.item.now (λ e. let f : false ≡ true = c.if-is_word.ensures.1 (c.in_ok-fragment.ensures.taken.0 ∙ ap name e) in cc) c.in_ok-fragment.ensures.taken (c.if-not-take_word.ensures.taken refl) c.in_ok-condition.ensures.taken

pub returns-in_err-fragment-clause-stuck : goal.returns-in_err-fragment-clause-stuck
returns-in_err-fragment-clause-stuck c =
    let p = err_from_is_err_and c.from_residual.result c.from_residual.ensures.1 in
    rw (p.1, p.2) (λ limit. head_nameless c.in_err-fragment.ensures.left c.in_err-fragment.ensures.placed)

pub returns-in_err-condition-clause-stuck : goal.returns-in_err-condition-clause-stuck
returns-in_err-condition-clause-stuck c =
    let p = err_from_is_err_and c.from_residual-in_err-condition.result c.from_residual-in_err-condition.ensures.1 in
    rw (p.1, p.2) (λ limit. head_untyped c.name.new.tokens c.take_word.new.self c.in_ok-fragment.fragment.item.now (λ e. let f : false ≡ true = c.if-is_word.ensures.1 (c.in_ok-fragment.ensures.taken.0 ∙ ap name e) in cc) c.in_ok-fragment.ensures.taken (c.if-not-take_word.ensures.taken refl) c.in_err-condition.ensures.left c.in_err-condition.ensures.placed)

pub returns-then-is_word-clause-stuck : goal.returns-then-is_word-clause-stuck
returns-then-is_word-clause-stuck c limit =
    head_on (c.if-is_word.ensures.0 refl) (placed_fault (ahead_of c.args.tokens.now) c.fault.result c.fault.ensures)

pub returns-then-not-take_word-clause-stuck : goal.returns-then-not-take_word-clause-stuck
returns-then-not-take_word-clause-stuck c limit =
    head_unconditioned c.name.new.tokens c.in_ok-fragment.fragment.item.now (λ e. let f : false ≡ true = c.if-is_word.ensures.1 (c.in_ok-fragment.ensures.taken.0 ∙ ap name e) in cc) c.in_ok-fragment.ensures.taken (c.if-not-take_word.ensures.left refl) (placed_fault (ahead_of c.take_word.new.self) c.fault-then-not-take_word.result c.fault-then-not-take_word.ensures)
