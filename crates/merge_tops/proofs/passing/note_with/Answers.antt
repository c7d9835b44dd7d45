use Rattle.std.proofs.Common.{sym, ◌∙◌}
use Rattle.std.proofs.lemmas.Result.{on_ok_weaker}
use Rattle.bit_matrix.specs.Set.{has}
use Rattle.merge_sets.specs.World.{world}
use Rattle.merge_sets.proofs.Harmless.{plain_either}
use Rattle.merge_sets.proofs.Laws.{clash}
use Rattle.merge_search.proofs.Work.{did_none, did_map, did_below}
use Rattle.merge_search.proofs.Worth.{below_kept}
use Rattle.merge_tops.proofs.passing.note_with.Goals as goal

pub returns-then-is_plain-clause-done : goal.returns-then-is_plain-clause-done
returns-then-is_plain-clause-done g c =
    let v = world g.J.Judge.judgement c.args.graph.now in
    on_ok_weaker c.note_below.result (λ n. did_map v _ _ (λ M h marked. h) (did_below v c.args.f (has c.args.list.now) n c.requires.first (λ i j is among. plain_either v c.args.f i j is c.if-is_plain.ensures.plain))) c.note_below.ensures

pub returns-else-is_plain-clause-done : goal.returns-else-is_plain-clause-done
returns-else-is_plain-clause-done g c =
    let v = world g.J.Judge.judgement c.args.graph.now in
    did_none v _ c.args.search.now (λ M grown marked. absurd (clash _ marked (sym c.is_plain.ensures.marked ∙ c.if-is_plain.false)))

pub returns-then-is_plain-clause-spends : goal.returns-then-is_plain-clause-spends
returns-then-is_plain-clause-spends g c =
    on_ok_weaker c.note_below.result (λ n. below_kept (world g.J.Judge.judgement c.args.graph.now) _ _ c.args.f (has c.args.list.now) n) c.note_below.ensures
