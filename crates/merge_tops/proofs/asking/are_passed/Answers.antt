use Rattle.std.proofs.Common.{false, subst}
use Rattle.std.specs.Bool.{OnTrue}
use Rattle.std.specs.List.{All}
use Rattle.std.proofs.lemmas.List.Elements.{All-contains}
use Rattle.merge_sets.specs.World.{world}
use Rattle.merge_sets.specs.Plain.{IsPlainBelow}
use Rattle.merge_certificates.proofs.ClearLists.{lists_clear}
use Rattle.merge_sets.proofs.Harmless.{below_merges}
use Rattle.merge_sets.proofs.Laws.{on_true_weaker}
use Rattle.merge_tops.proofs.asking.are_passed.Goals as goal

pub returns-clause-clear : goal.returns-clause-clear
returns-clause-clear g c =
    let v = world g.J.Judge.judgement c.args.graph.now in
    let xs = c.args.fields.now in
    let plain = subst (λ b. OnTrue b (All (IsPlainBelow v) xs)) c.if-not-are_plain_below.false c.are_plain_below.ensures in
    on_true_weaker c.agree_plainly.result
    (λ none. lists_clear v false xs xs (none false) (λ a b p q. below_merges v (All-contains (IsPlainBelow v) xs a plain p)))
    c.agree_plainly.ensures.agree
