use Rattle.std.proofs.Common.{ap, arith, inl, inr, length}
use Rattle.std.proofs.lemmas.Bool.{cases_lt}
use Rattle.merge_sets.proofs.NamesSeen.{notes_more}
use Rattle.merge_sets.proofs.plain_names.note_own.Goals as goal

pub loop-field-preserved : goal.loop-field-preserved
loop-field-preserved g c = (
  c.loop-field.invariant.0,
  notes_more (g.J.Judge.are_alike c.args.graph.now.judge) c.own-field-items.result.now c.loop-field.field-index c.loop-field-test.true c.loop-field.invariant.1
      c.in_ok-note_field.ensures.notes,
  omega (arith, c.loop-field.invariant.2, c.note_field.ensures.spent),
  λ past some. elim (cases_lt 0 c.loop-field.budget) [
    | inl left ↦ omega (arith, c.loop-field.invariant.2, c.in_ok-note_field.ensures.ticks left)
    | inr none ↦ omega (arith, none, some, c.note_field.ensures.spent)
  ],
)

pub returns-clause-ticks : goal.returns-clause-ticks
returns-clause-ticks g c own some =
    c.loop-field.invariant.3 (omega (arith, own, ap length c.loop-field.invariant.0, c.loop-field-test.false)) some
