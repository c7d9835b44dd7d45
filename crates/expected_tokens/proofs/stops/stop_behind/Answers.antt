use Rattle.std.proofs.Common.{IfOk, subst}
use Rattle.expected_tokens.specs.Stops.{StopsAt}
use Rattle.expected_tokens.proofs.StopLaws.{made}
use Rattle.expected_tokens.proofs.stops.stop_behind.Goals as goal

pub returns : goal.returns
returns c =
    let front = c.args.front.now in
    let next = c.args.next.now in
    let text = c.in_ok-text.text.items in
    let grown = c.push.new.self.items in
    let whole = c.extend_from_slice.new.self.items in
    let bytes = c.as_bytes in
    let given = c.as_slice in
    let copied = c.in_ok-text.ensures.items in
    let pushed = c.in_ok-push.ensures.items in
    let extended = c.in_ok-extend_from_slice.ensures.items in
    let same = made front next text grown whole bytes.result.now given.result.now in
    subst (λ z. IfOk c.stop_of.result (StopsAt z))
    (same copied pushed extended bytes.ensures.value given.ensures.value) c.stop_of.ensures
