use Rattle.std.proofs.Common.{ℕ, List, ◌∷◌, ◌++◌, sym, subst}
use Rattle.expected_tokens.specs.Samples.{sample}
use Rattle.expected_tokens.specs.Stops.{StopsAt}
use Rattle.expected_tokens.proofs.Laws.{Told, told_any, told_end}
use Rattle.expected_tokens.proofs.questions.may_follow.Goals as goal

pub returns-in-End : goal.returns-in-End
returns-in-End c before p b =
    let front = c.args.front.now in
    let stop = c.in_ok-stop.stop in
    let Behind : List ℕ → Type 0 = λ z. StopsAt (front ++ 10 ∷ z) stop in
    let s : Behind (sample c.args.expected) = subst Behind c.sample.ensures c.in_ok-stop.ensures in
    subst (Told stop.is_document before p) (sym c.in-End.is)
    (told_end front before p stop b (subst (λ z. Behind (sample z)) c.in-End.is s))

pub returns-in_default : goal.returns-in_default
returns-in_default c before p b =
    let front = c.args.front.now in
    let stop = c.in_ok-stop.stop in
    let Behind : List ℕ → Type 0 = λ z. StopsAt (front ++ 10 ∷ z) stop in
    let s : Behind (sample c.args.expected) = subst Behind c.sample.ensures c.in_ok-stop.ensures in
    told_any c.args.expected front before p stop c.in_default.not-End b s
