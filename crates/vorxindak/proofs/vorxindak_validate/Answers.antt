use Rattle.std.proofs.Common.{◌∙◌, Some, ap, arith, refl}
use Rattle.answers.specs.contracts.rules.SourceScalarAnswerRules.TheImpl.{ghosts}
use Rattle.vorxindak.proofs.Told.{nothing_once, answer_once, was_none, was_there}
use Rattle.vorxindak.proofs.vorxindak_validate.Goals as goal

-- nothing is held
pub returns-in_default : goal.returns-in_default
returns-in_default c = record {
  unknown = λ h. absurd (omega (arith, h));
  told = λ h. nothing_once _ _ _ _ (was_none _ _ _ c.take.ensures.taken c.in_default.is) c.take.ensures.left refl;
}

-- what is held was judged by
pub returns : goal.returns
returns c = record {
  unknown = λ h. absurd (omega (arith, h));
  told = λ h.
      let there = ap (λ held. Some held) c.deref_mut.ensures.value ∙ was_there _ _ _ c.take.ensures.taken _ c.in-Some.is in
      answer_once ghosts.rules c.args.query.now _ _ c.choices_of.ensures c.judge-status.result c.deref_mut.result.now _ _ _ there c.put.ensures c.judge-status.ensures;
}
