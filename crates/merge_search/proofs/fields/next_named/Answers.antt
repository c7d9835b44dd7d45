use Rattle.std.proofs.Common.{◌≡◌, ◌*◌, ℕ, length, arith, drop, get_or, ap, refl, rules, subst, sym, ◌∙◌}
use Rattle.std.specs.List.{Contains}
use Rattle.std.specs.Bool.{OnTrue}
use Rattle.merge_search.specs.declared.task.Task.TheVariants.{With}
use Rattle.merge_sets.specs.declared.node.Entry.{Entry}
use Rattle.merge_sets.specs.Names.{named}
use Rattle.merge_sets.specs.World.{world, own_of}
use Rattle.merge_sets.specs.Clear.{AreClear, IsClear}
use Rattle.merge_search.specs.Reports.{AtWith}
use Rattle.merge_search.specs.Tasks.{AreClearWith, AtRows, Meets, MeetsBoth, MeetsNamed, MeetsRows, WithDone}
use Rattle.merge_sets.proofs.OneName.{no_entry, named_is, in_list}
use Rattle.merge_search.proofs.Work.{did_none}
use Rattle.merge_search.proofs.Clearing.{named_done, named_tells}
use Rattle.merge_search.specs.Spending.{name_cost, row_cost}
use Rattle.merge_search.specs.declared.state.Search.{Search}
use Rattle.merge_search.proofs.Costs.{asked_pays, one_row, pays_more, rows_wait, wide_waits}
use Rattle.merge_search.proofs.Settling.{kept_twice}
use Rattle.merge_search.proofs.Leading.{leads_done, leads_turn}
use Rattle.merge_sets.proofs.InOrder.{at_of}
use Rattle.merge_search.proofs.Steps.{both_named, drop_end, drop_next, each_none, each_next, named_kept, with_whole, rows_named}
use Rattle.merge_search.proofs.fields.next_named.Goals as goal

pub returns-then-fields-eq1-clause-turns : goal.returns-then-fields-eq1-clause-turns
returns-then-fields-eq1-clause-turns g c =
    let v = world g.J.Judge.judgement c.args.graph.now in
    let e = c.args.e in
    let i = c.args.i in
    let j = c.args.j in
    let n = c.args.name in
    let fields = c.group-fields.result.now in
    let one : length fields ≡ 1 = search rules in
    let a : Entry = get_or fields 0 no_entry in
    leads_turn v (Meets v (With a j e 0)) (MeetsNamed v e i j n) _ _ _ _ _
    (λ t d. rows_named v e i j n fields _ t c.group-fields.ensures
    (each_next v e (WithDone v e j) (AtRows v j fields) (AtWith v a j) (λ a. AtWith v a j) a (drop 1 fields) fields _ t t
    (drop_next fields fields 0 no_entry refl (omega (arith, one)))
    (λ r z. (a, in_list fields fields 0 no_entry refl (omega (arith, one)), z)) (with_whole v e a j _ t d)
    (each_none v e (WithDone v e j) (AtRows v j fields) (λ a. AtWith v a j) (drop 1 fields) t (drop_end fields fields 1 refl (omega (arith, one))))))
    c.in_ok-next_with.ensures.turns

pub returns-then-fields-eq1-clause-pays : goal.returns-then-fields-eq1-clause-pays
returns-then-fields-eq1-clause-pays g c =
    let v = world g.J.Judge.judgement c.args.graph.now in
    let fields = c.group-fields.result.now in
    let one : length fields ≡ 1 = search rules in
    let a : Entry = get_or fields 0 no_entry in
    pays_more v (row_cost v c.args.j a) (8 * name_cost v c.args.i c.args.j c.args.name) _ _ _ _
    (one_row v c.args.i c.args.j c.args.name fields c.group-fields.ensures (omega (arith, one))) c.in_ok-next_with.ensures.pays

pub returns-then-branch-clause-turns : goal.returns-then-branch-clause-turns
returns-then-branch-clause-turns g c =
    let v = world g.J.Judge.judgement c.args.graph.now in
    let e = c.args.e in
    let i = c.args.i in
    let j = c.args.j in
    let n = c.args.name in
    let s = c.args.search.now in
    let t : Search = c.ask_clear.new.search in
    let lefts = c.group-fields.result.now in
    let rights = c.group-others.result.now in
    let clear : AreClear v e lefts rights = subst (λ b. OnTrue b (AreClear v e lefts rights)) c.if-branch.true c.in_ok-ask_clear.ensures.clear in
    leads_done v (MeetsNamed v e i j n) _ (named_kept v e i j n s t t c.in_ok-ask_clear.ensures.counts.keeps (record {
      done = did_none v _ t (λ M grown. named_done v e i j n lefts rights c.group-fields.ensures c.group-others.ensures clear M);
      real = named_tells v e i j n lefts rights c.group-fields.ensures c.group-others.ensures clear t.found.items;
    }))

pub returns-then-branch-clause-pays : goal.returns-then-branch-clause-pays
returns-then-branch-clause-pays g c =
    let v = world g.J.Judge.judgement c.args.graph.now in
    asked_pays v c.args.i c.args.j c.args.name c.group-fields.result.now c.group-others.result.now c.group-fields.ensures c.group-others.ensures c.args.tasks.now.items _ _
    c.in_ok-ask_clear.ensures.counts

pub returns-then-saturating_mul-lt-MANY-clause-turns : goal.returns-then-saturating_mul-lt-MANY-clause-turns
returns-then-saturating_mul-lt-MANY-clause-turns g c =
    let v = world g.J.Judge.judgement c.args.graph.now in
    let e = c.args.e in
    let i = c.args.i in
    let j = c.args.j in
    let n = c.args.name in
    let s = c.args.search.now in
    let m : Search = c.ask_rows.new.search in
    let lefts = c.group-fields.result.now in
    let clear : AreClearWith v e j lefts c.in_ok-clear.clear = λ k a p h.
    subst (λ xs. IsClear v e a xs)
    (c.group-others.ensures ∙ sym (ap (λ (m : ℕ). named m (own_of v j)) (named_is n (own_of v i) a (subst (λ xs. Contains xs a) c.group-fields.ensures (at_of lefts k a p)))))
    (c.in_ok-clear.ensures.rows k a p h) in
    leads_turn v (MeetsRows v e j lefts) (MeetsNamed v e i j n) _ _ m s m
    (λ t d. named_kept v e i j n s m t (kept_twice c.in_ok-ask_clear.ensures.counts.keeps c.in_ok-clear.ensures.counts.keeps) (rows_named v e i j n lefts m t c.group-fields.ensures d))
    (c.in_ok-wait_rows.ensures.waits v clear m)

pub returns-then-saturating_mul-lt-MANY-clause-pays : goal.returns-then-saturating_mul-lt-MANY-clause-pays
returns-then-saturating_mul-lt-MANY-clause-pays g c =
    let v = world g.J.Judge.judgement c.args.graph.now in
    rows_wait v c.args.i c.args.j c.args.name c.group-fields.result.now c.group-others.result.now c.group-fields.ensures c.group-others.ensures _ _ _ _ _
    c.in_ok-ask_clear.ensures.counts c.in_ok-clear.ensures.counts (c.in_ok-wait_rows.ensures.costs v)

pub returns-clause-turns : goal.returns-clause-turns
returns-clause-turns g c =
    let v = world g.J.Judge.judgement c.args.graph.now in
    let e = c.args.e in
    let i = c.args.i in
    let j = c.args.j in
    let n = c.args.name in
    let s = c.args.search.now in
    let m : Search = c.wait_wide.new.search in
    let lefts = c.group-fields.result.now in
    let rights = c.group-others.result.now in
    let keeps = kept_twice (kept_twice c.in_ok-ask_clear.ensures.counts.keeps c.in_ok-clear.ensures.counts.keeps) c.in_ok-wait_wide.ensures.counts.keeps in
    leads_turn v (MeetsBoth v e lefts rights 0) (MeetsNamed v e i j n) _ _ m s m
    (λ t d. named_kept v e i j n s m t keeps (both_named v e i j n lefts rights m t c.group-fields.ensures c.group-others.ensures d)) (c.in_ok-wait_wide.ensures.waits m)

pub returns-clause-pays : goal.returns-clause-pays
returns-clause-pays g c =
    let v = world g.J.Judge.judgement c.args.graph.now in
    wide_waits v c.args.i c.args.j c.args.name c.group-fields.result.now c.group-others.result.now c.group-fields.ensures c.group-others.ensures _ _ _ _ _ _
    c.in_ok-ask_clear.ensures.counts c.in_ok-clear.ensures.counts c.in_ok-wait_wide.ensures.counts c.in_ok-wait_wide.ensures.costs
