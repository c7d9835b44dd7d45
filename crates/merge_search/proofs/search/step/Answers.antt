use Rattle.std.proofs.lemmas.Result.{on_ok_weaker}
use Rattle.merge_sets.specs.World.{world}
use Rattle.merge_search.specs.State.{Keeps}
use Rattle.merge_search.specs.Tasks.{Meets, Closes}
use Rattle.merge_search.specs.Spending.{task_cost}
use Rattle.merge_search.proofs.Costs.{on_ok_ok, pays_counts, pays_is, pays_kept, pays_none}
use Rattle.merge_search.proofs.Leading.{leads_is, leads_done}
use Rattle.merge_search.proofs.search.step.Goals as goal

pub returns-in-With-clause-turns : goal.returns-in-With-clause-turns
returns-in-With-clause-turns g c = let v = world g.J.Judge.judgement c.args.graph.now in on_ok_weaker c.next_with.result (λ go. leads_is v (Meets v) c.args.task _ _ _ _ _ c.in-With.is go) c.next_with.ensures.turns

pub returns-in-Own-clause-turns : goal.returns-in-Own-clause-turns
returns-in-Own-clause-turns g c = let v = world g.J.Judge.judgement c.args.graph.now in on_ok_weaker c.next_own.result (λ go. leads_is v (Meets v) c.args.task _ _ _ _ _ c.in-Own.is go) c.next_own.ensures.turns

pub returns-in-Opened-clause-turns : goal.returns-in-Opened-clause-turns
returns-in-Opened-clause-turns g c = let v = world g.J.Judge.judgement c.args.graph.now in on_ok_weaker c.next_opened.result (λ go. leads_is v (Meets v) c.args.task _ _ _ _ _ c.in-Opened.is go) c.next_opened.ensures.turns

pub returns-in-Spreads-clause-turns : goal.returns-in-Spreads-clause-turns
returns-in-Spreads-clause-turns g c = let v = world g.J.Judge.judgement c.args.graph.now in on_ok_weaker c.next_spread.result (λ go. leads_is v (Meets v) c.args.task _ _ _ _ _ c.in-Spreads.is go) c.next_spread.ensures.turns

pub returns-in-Close-clause-turns : goal.returns-in-Close-clause-turns
returns-in-Close-clause-turns g c =
    let v = world g.J.Judge.judgement c.args.graph.now in
    on_ok_weaker c.close.result
    (λ d. leads_is v (Meets v) c.args.task _ _ _ _ _ c.in-Close.is (leads_done v (Closes c.in-Close.a c.in-Close.b c.in-Close.start) _ d)) c.close.ensures.closes

pub returns-in-Mark-clause-turns : goal.returns-in-Mark-clause-turns
returns-in-Mark-clause-turns g c =
    let v = world g.J.Judge.judgement c.args.graph.now in
    on_ok_weaker c.note_conflicts.result (λ d. leads_is v (Meets v) c.args.task _ _ _ _ _ c.in-Mark.is (leads_done v Keeps _ d)) c.note_conflicts.ensures.keeps

pub returns-then-is_skipped-clause-turns : goal.returns-then-is_skipped-clause-turns
returns-then-is_skipped-clause-turns g c = let v = world g.J.Judge.judgement c.args.graph.now in leads_done v (Meets v c.args.task) _ c.if-is_skipped.ensures

pub returns-in-Listed-clause-turns : goal.returns-in-Listed-clause-turns
returns-in-Listed-clause-turns g c = let v = world g.J.Judge.judgement c.args.graph.now in on_ok_weaker c.next_listed.result (λ go. leads_is v (Meets v) c.args.task _ _ _ _ _ c.in-Listed.is go) c.next_listed.ensures.turns

pub returns-in-Rows-clause-turns : goal.returns-in-Rows-clause-turns
returns-in-Rows-clause-turns g c = let v = world g.J.Judge.judgement c.args.graph.now in on_ok_weaker c.next_row.result (λ go. leads_is v (Meets v) c.args.task _ _ _ _ _ c.in-Rows.is go) c.next_row.ensures.turns

pub returns-in-With-clause-pays : goal.returns-in-With-clause-pays
returns-in-With-clause-pays g c =
    let v = world g.J.Judge.judgement c.args.graph.now in
    on_ok_weaker c.next_with.result (λ p. pays_is v c.args.task _ _ _ _ _ c.in-With.is p) c.next_with.ensures.pays

pub returns-in-Own-clause-pays : goal.returns-in-Own-clause-pays
returns-in-Own-clause-pays g c =
    let v = world g.J.Judge.judgement c.args.graph.now in
    on_ok_weaker c.next_own.result (λ p. pays_is v c.args.task _ _ _ _ _ c.in-Own.is p) c.next_own.ensures.pays

pub returns-in-Opened-clause-pays : goal.returns-in-Opened-clause-pays
returns-in-Opened-clause-pays g c =
    let v = world g.J.Judge.judgement c.args.graph.now in
    on_ok_weaker c.next_opened.result (λ p. pays_is v c.args.task _ _ _ _ _ c.in-Opened.is p) c.next_opened.ensures.pays

pub returns-in-Spreads-clause-pays : goal.returns-in-Spreads-clause-pays
returns-in-Spreads-clause-pays g c =
    let v = world g.J.Judge.judgement c.args.graph.now in
    on_ok_weaker c.next_spread.result (λ p. pays_is v c.args.task _ _ _ _ _ c.in-Spreads.is p) c.next_spread.ensures.pays

pub returns-in-Listed-clause-pays : goal.returns-in-Listed-clause-pays
returns-in-Listed-clause-pays g c =
    let v = world g.J.Judge.judgement c.args.graph.now in
    on_ok_weaker c.next_listed.result (λ p. pays_is v c.args.task _ _ _ _ _ c.in-Listed.is p) c.next_listed.ensures.pays

pub returns-in-Rows-clause-pays : goal.returns-in-Rows-clause-pays
returns-in-Rows-clause-pays g c =
    let v = world g.J.Judge.judgement c.args.graph.now in
    on_ok_weaker c.next_row.result (λ p. pays_is v c.args.task _ _ _ _ _ c.in-Rows.is p) c.next_row.ensures.pays

pub returns-in-Close-clause-pays : goal.returns-in-Close-clause-pays
returns-in-Close-clause-pays g c =
    let v = world g.J.Judge.judgement c.args.graph.now in
    on_ok_weaker c.close.result (λ d. pays_is v c.args.task _ _ _ _ _ c.in-Close.is (pays_counts v 0 _ _ _ d)) c.close.ensures.counts

pub returns-in-Mark-clause-pays : goal.returns-in-Mark-clause-pays
returns-in-Mark-clause-pays g c =
    let v = world g.J.Judge.judgement c.args.graph.now in
    on_ok_ok c.note_conflicts.result (λ keeps counts. pays_is v c.args.task _ _ _ _ _ c.in-Mark.is (pays_kept v 0 _ _ _ keeps counts)) c.note_conflicts.ensures.keeps c.note_conflicts.ensures.counts

pub returns-then-is_skipped-clause-pays : goal.returns-then-is_skipped-clause-pays
returns-then-is_skipped-clause-pays g c = let v = world g.J.Judge.judgement c.args.graph.now in pays_none v (task_cost v c.args.task) c.args.tasks.now.items c.args.search.now
