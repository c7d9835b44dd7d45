use Rattle.std.proofs.Common.{sym}
use Rattle.std.proofs.lemmas.List.{length-take-le}
use Rattle.expected_tokens.proofs.StopLaws.{front_of_stop}
use Rattle.expected_tokens.proofs.stops.front_of.Goals as goal

pub slice_bounds-result-end : goal.slice_bounds-result-end
slice_bounds-result-end c =
    let front = front_of_stop c.args.text.now c.in_ok-stop.stop c.in_ok-stop.ensures in
    sym (length-take-le c.in_ok-stop.stop.index c.args.text.now front.within)

pub returns : goal.returns
returns c = (front_of_stop c.args.text.now c.in_ok-stop.stop c.in_ok-stop.ensures).front
