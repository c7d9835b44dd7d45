use Rattle.std.proofs.Common.{◌∙◌, ap, refl, sym}
use Rattle.std.specs.Arc.{arc_value}
use Rattle.std.specs.Prelude.{Some, option_map}
use Rattle.vorxindak.proofs.Told.{kept_tells, told_by, told_none}
use Rattle.vorxindak.proofs.judging.judge_values.Goals as goal

-- there is no schema
pub returns-in_default : goal.returns-in_default
returns-in_default c = told_none _ _ c.args.held.now refl (ap (option_map arc_value) c.in_default.is)

-- the document was judged by the schema
pub returns : goal.returns
returns c =
    told_by _ c.keep.result c.args.held.now _ _ (ap (option_map arc_value) c.in-Some.is ∙ ap (λ s. Some s) (sym c.deref.ensures)) refl
    (kept_tells _ c.answer_with_values-answered.result c.keep.result _ c.answer_with_values-answered.ensures c.keep.ensures)
