use Rattle.std.proofs.lemmas.Result.{err_from_is_err_and}
use Rattle.std.proofs.Common.{None, refl, ◌∙◌}
use Rattle.language.specs.declared.tree.OperationType.TheVariants.{Query}
use Rattle.graphql_reader.specs.Selections.{nodes_seen}
use Rattle.graphql_reader.proofs.DocumentLaws.{short_read}
use Rattle.graphql_reader.proofs.DocumentLeaveLaws.{short_fault}
use Rattle.graphql_reader.proofs.DocumentLeaveLaws as leave
use Rattle.graphql_reader.proofs.definitions.read_bare_query.Goals as goal

pub returns-clause-tree : goal.returns-clause-tree
returns-clause-tree c =
    short_read c.args.max_depth (record { kind = Query; name = None; variables = None; directives = None; set = nodes_seen c.in_ok-selection_set.selection_set.items; span = c.span_from-span.result }) c.args.tokens.now c.read_selection_set.new.tokens refl refl refl refl c.in_ok-selection_set.ensures.tree (c.span_from-span.ensures.start ∙ c.start-start.ensures) c.span_from-span.ensures.stop

pub returns-clause-leaves : goal.returns-clause-leaves
returns-clause-leaves c next = leave.short_read next c.in_ok-selection_set.ensures.leaves

pub returns-in_err-selection_set-clause-stuck : goal.returns-in_err-selection_set-clause-stuck
returns-in_err-selection_set-clause-stuck c =
    let p = err_from_is_err_and c.from_residual.result c.from_residual.ensures.1 in
    rw (p.1, p.2) (λ next. short_fault next c.in_err-selection_set.ensures.stuck)
