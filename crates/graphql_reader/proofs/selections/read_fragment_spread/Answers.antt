use Rattle.std.proofs.lemmas.Result.{err_from_is_err_and}
use Rattle.std.proofs.Common.{◌∙◌}
use Rattle.language_types.specs.declared.position.Span.{Span}
use Rattle.language_types.specs.declared.position.Spanning.{Spanning}
use Rattle.language.specs.declared.tree.FragmentSpread.{FragmentSpread}
use Rattle.language.specs.declared.tree.Selection.TheVariants as v
use Rattle.sdl_scalars.specs.declared.scalar.SourceScalar.{SourceScalar}
use Rattle.graphql_reader.specs.Arguments.{name_seen}
use Rattle.graphql_reader.proofs.AddedLaws.{spread_added, spread_view}
use Rattle.graphql_reader.proofs.SelectionLaws.{spread_read}
use Rattle.graphql_reader.proofs.SelectionLeaveLaws.{spread_marks, spread_nameless}
use Rattle.graphql_reader.proofs.SelectionLeaveLaws as leave
use Rattle.graphql_reader.proofs.selections.read_fragment_spread.Goals as goal

pub returns-clause-tree : goal.returns-clause-tree
returns-clause-tree c dots spread start other =
    let span = c.span_from-span.result in
    let s : Spanning (FragmentSpread SourceScalar) Span = record { item = record { name = c.in_ok-name.name; directives = c.in_ok-directives.directives }; span = span } in
    let read = spread_read c.args.max_depth (name_seen c.in_ok-name.name) c.in_ok-directives.directives span (v.FragmentSpread s) dots c.args.tokens.now c.name.new.tokens c.read_directives.new.tokens spread c.in_ok-name.ensures.taken c.in_ok-name.ensures.span other c.in_ok-directives.ensures.tree (c.span_from-span.ensures.start ∙ start) c.span_from-span.ensures.stop (spread_view s) in
    spread_added c.args.max_depth dots c.read_directives.new.tokens s c.args.nodes.now.items c.reserve.new.self.items c.push_reserved.new.self.items c.reserve.ensures.items c.push_reserved.ensures.items read

pub returns-clause-leaves : goal.returns-clause-leaves
returns-clause-leaves c other depth = leave.spread_read c.name.new.tokens c.in_ok-name.name.item.now other c.in_ok-name.ensures.taken c.in_ok-directives.ensures.leaves

pub returns-in_err-name-clause-stuck : goal.returns-in_err-name-clause-stuck
returns-in_err-name-clause-stuck c =
    let p = err_from_is_err_and c.from_residual-in_err-name.result c.from_residual-in_err-name.ensures.1 in
    rw (p.1, p.2) (λ other depth. spread_nameless c.in_err-name.ensures.left c.in_err-name.ensures.placed)

pub returns-in_err-directives-clause-stuck : goal.returns-in_err-directives-clause-stuck
returns-in_err-directives-clause-stuck c =
    let p = err_from_is_err_and c.from_residual-in_err-directives.result c.from_residual-in_err-directives.ensures.1 in
    rw (p.1, p.2) (λ other depth. spread_marks c.name.new.tokens c.in_ok-name.name.item.now other c.in_ok-name.ensures.taken c.in_err-directives.ensures.stuck)
