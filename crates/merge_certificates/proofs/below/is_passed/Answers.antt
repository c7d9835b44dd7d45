use Rattle.std.proofs.Common.{subst}
use Rattle.std.specs.Bool.{OnTrue}
use Rattle.merge_certificates.specs.Failing.{AgreesBy}
use Rattle.merge_sets.proofs.Laws.{on_true_weaker}
use Rattle.merge_certificates.proofs.below.is_passed.Goals as goal

pub returns : goal.returns
returns c =
    let agrees = subst (λ b. OnTrue b (AgreesBy c.args.numbers.now c.args.agreeing.now c.args.l)) c.if-not-agrees_by.false c.agrees_by.ensures in
    record {
      passed = on_true_weaker c.is_known.result (λ known near. (known near, agrees)) c.is_known.ensures;
      agrees = on_true_weaker c.is_known.result (λ known. agrees) c.is_known.ensures;
    }
