use Rattle.std.proofs.Common.{subst}
use Rattle.expected_tokens.specs.Stops.{IsFront}
use Rattle.expected_tokens.proofs.Laws.{answered}
use Rattle.expected_tokens.proofs.questions.goes_on.Goals as goal

pub returns : goal.returns
returns c =
    let front = c.in_ok-front.front.now in
    let is : IsFront c.args.text.now front = subst (λ z. IsFront z front) c.as_bytes.ensures.value c.in_ok-front.ensures in
    answered c.args.text.now front c.args.next.now c.in_ok-stop.stop is c.in_ok-stop.ensures
