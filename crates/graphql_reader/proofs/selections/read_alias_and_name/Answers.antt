use Rattle.std.proofs.lemmas.Result.{err_from_is_err_and}
use Rattle.std.proofs.Common.{refl}
use Rattle.graphql_reader.specs.Arguments.{name_seen}
use Rattle.graphql_reader.proofs.SelectionLaws.{aliased, not_aliased}
use Rattle.graphql_reader.proofs.SelectionLeaveLaws.{alias_nameless, aliased_nameless, aliased_read, unaliased}
use Rattle.graphql_reader.proofs.selections.read_alias_and_name.Goals as goal

pub returns-then-take-clause-tree : goal.returns-then-take-clause-tree
returns-then-take-clause-tree c =
    aliased (name_seen c.in_ok-first.first) (name_seen c.in_ok-name.name) c.args.tokens.now c.name.new.tokens c.take.new.self c.name-then-take.new.tokens c.in_ok-first.ensures.taken c.in_ok-first.ensures.span (c.if-take.ensures.taken refl) c.in_ok-name.ensures.taken c.in_ok-name.ensures.span

pub returns-clause-tree : goal.returns-clause-tree
returns-clause-tree c =
    not_aliased (name_seen c.in_ok-first.first) c.args.tokens.now c.name.new.tokens c.take.new.self c.in_ok-first.ensures.taken c.in_ok-first.ensures.span (c.if-take.ensures.left refl).1

pub returns-then-take-clause-leaves : goal.returns-then-take-clause-leaves
returns-then-take-clause-leaves c limit =
    aliased_read c.name.new.tokens c.take.new.self c.in_ok-first.first.item.now c.in_ok-name.name.item.now c.in_ok-first.ensures.taken (c.if-take.ensures.taken refl) c.in_ok-name.ensures.taken

pub returns-clause-leaves : goal.returns-clause-leaves
returns-clause-leaves c limit = unaliased c.name.new.tokens c.in_ok-first.first.item.now c.in_ok-first.ensures.taken (c.if-take.ensures.left refl)

pub returns-in_err-first-clause-stuck : goal.returns-in_err-first-clause-stuck
returns-in_err-first-clause-stuck c =
    let p = err_from_is_err_and c.from_residual.result c.from_residual.ensures.1 in
    rw (p.1, p.2) (λ limit. aliased_nameless c.in_err-first.ensures.left c.in_err-first.ensures.placed)

pub returns-in_err-name-clause-stuck : goal.returns-in_err-name-clause-stuck
returns-in_err-name-clause-stuck c =
    let p = err_from_is_err_and c.from_residual-in_err-name.result c.from_residual-in_err-name.ensures.1 in
    rw (p.1, p.2) (λ limit. alias_nameless c.name.new.tokens c.take.new.self c.in_ok-first.first.item.now c.in_ok-first.ensures.taken (c.if-take.ensures.taken refl) c.in_err-name.ensures.left c.in_err-name.ensures.placed)
