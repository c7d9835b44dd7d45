use Rattle.std.proofs.Common.{map, subst}
use Rattle.std.proofs.lemmas.Bool.{OnTrue_at, OnTrue_from}
use Rattle.merge_field_pairs.specs.Entries.{plain}
use Rattle.merge_field_pairs.specs.Kinds.{IsKinAt}
use Rattle.merge_graph.proofs.judge.FieldJudgeJudge.is_kin.Goals as goal

pub returns : goal.returns
returns g c =
    OnTrue_from c.are_kin_at.result _ (λ kin. (
      g.met.S.Eq.laws,
      subst (λ fields. IsKinAt g.S.PartialEq.eq (map plain fields) c.args.one c.args.other) c.as_slice.ensures.value
          (OnTrue_at kin c.are_kin_at.ensures.value),
    ))
