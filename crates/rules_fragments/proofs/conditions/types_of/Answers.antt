use Rattle.std.proofs.Common.{ap, sym, ◌∙◌}
use mathlib.Core.Path.{fun_ext}
use Rattle.std.specs.Option.{option_copied}
use Rattle.fragment_graph.specs.Numbers.{number_of}
use Rattle.rules_fragments.specs.PossibleFragmentSpreads.{no_conditions}
use Rattle.rules_fragments.proofs.ConditionsSeen.{conditions_more, has_number, none_kept}
use Rattle.rules_fragments.proofs.conditions.types_of.Goals as goal

pub loop-place-init : goal.loop-place-init
loop-place-init g c = (
  fun_ext (λ name. ap option_copied (none_kept c.in_ok-types.types.items c.in_ok-types.ensures.none (number_of c.args.names.now.numbers name))),
  c.in_ok-types.ensures.len ∙ c.name_count.ensures,
)

pub note_type-requires-clause-has : goal.note_type-requires-clause-has
note_type-requires-clause-has g c =
    has_number c.args.document.now c.args.names.now.numbers c.args.names.now.defined.items c.requires c.index-document-place.result (c.loop-place.place, c.loop-place-test.true, sym c.index-document-place.is)

pub loop-place-preserved : goal.loop-place-preserved
loop-place-preserved g c = (
  conditions_more c.args.schema.now no_conditions _ _ c.args.document.now c.loop-place.place c.index-document-place.result c.loop-place-test.true c.index-document-place.is c.loop-place.invariant.0 c.note_type.ensures.noted,
  c.note_type.ensures.sized ∙ c.loop-place.invariant.1,
)
