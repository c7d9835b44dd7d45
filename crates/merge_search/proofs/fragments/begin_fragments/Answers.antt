use Rattle.std.proofs.Common.{ℕ, ◌≤◌, arith, length, max, rules, sym, subst, ◌∙◌, inl, inr}
use Rattle.merge_search.specs.declared.task.Task.TheVariants.{Own, Spreads}
use Rattle.merge_search.specs.declared.task.Partner.TheVariants as partner
use Rattle.merge_search.specs.declared.state.Search.{Search}
use Rattle.merge_sets.specs.World.{world, spreads_of, set_of}
use Rattle.merge_search.specs.Work.{pair_in, Pair}
use Rattle.merge_search.specs.Reports.{AtFirst}
use Rattle.merge_search.specs.Tasks.{AtPartners, Meets, MeetsFragments}
use Rattle.merge_search.proofs.Work.{did_none, covers_yes, covers_no}
use Rattle.merge_search.proofs.Adding.{adds_none}
use Rattle.merge_search.proofs.Searching.{two_pay}
use Rattle.merge_search.proofs.Leading.{leads_done, leads_both}
use Rattle.merge_search.proofs.Steps.{drop_end, searches_none, fragments_noted}
use Rattle.merge_search.proofs.fragments.begin_fragments.Goals as goal

pub returns-then-f-g-clause-turns : goal.returns-then-f-g-clause-turns
returns-then-f-g-clause-turns g c =
    let v = world g.J.Judge.judgement c.args.graph.now in
    leads_done v (MeetsFragments v c.args.e c.args.f c.args.g) _
    (λ lf lg. record { done = did_none v _ c.args.search.now (λ M grown. inl c.if-f-g.true); real = adds_none v c.args.e _ _ })

pub returns-then-last-len-clause-turns : goal.returns-then-last-len-clause-turns
returns-then-last-len-clause-turns g c =
    let v = world g.J.Judge.judgement c.args.graph.now in
    let far : length c.args.graph.now.fragments.items ≤ max c.args.f c.args.g = search rules in
    leads_done v (MeetsFragments v c.args.e c.args.f c.args.g) _ (λ lf lg. absurd (omega (arith, far, lf, lg)))

pub returns-then-is_compared-clause-turns : goal.returns-then-is_compared-clause-turns
returns-then-is_compared-clause-turns g c =
    let v = world g.J.Judge.judgement c.args.graph.now in
    leads_done v (MeetsFragments v c.args.e c.args.f c.args.g) _ (λ lf lg. record {
      done = did_none v _ c.args.search.now (λ M grown. let z = covers_yes (pair_in c.args.search.now) c.args.e c.args.f c.args.g (sym c.is_compared.ensures ∙ c.if-is_compared.true) in inr (z.0, z.1, grown.more_pairs z.0 c.args.f c.args.g z.2));
      real = adds_none v c.args.e _ _;
    })

pub returns-clause-turns : goal.returns-clause-turns
returns-clause-turns g c =
    let v = world g.J.Judge.judgement c.args.graph.now in
    let e = c.args.e in
    let f = c.args.f in
    let h = c.args.g in
    let s = c.args.search.now in
    let t : Search = c.note_pair.new.search in
    let left : ℕ = c.set-left.result in
    let right : ℕ = c.set-right.result in
    leads_both v (Meets v (Own left right e 0)) (Meets v (Spreads right (partner.First f) e 0)) (Meets v (Spreads left (partner.Second h) e 0)) (MeetsFragments v e f h) _ _ _ _ _ t s
    (λ u z q own first second. fragments_noted v e f h s t u z q c.if-f-g.false
    (covers_no (pair_in s) e f h (sym c.is_compared.ensures ∙ c.if-is_compared.false)) c.in_ok-note_pair.ensures
    (subst (λ (k : ℕ). Meets v (Own (set_of v f) k e 0) t u) c.set-right.ensures (subst (λ (k : ℕ). Meets v (Own k right e 0) t u) c.set-left.ensures own))
    (subst (λ (k : ℕ). Meets v (Spreads k (partner.First f) e 0) u z) c.set-right.ensures first)
    (subst (λ (k : ℕ). Meets v (Spreads k (partner.Second h) e 0) z q) c.set-left.ensures second))
    (c.in_ok-wait-2.ensures.waits v (λ none q lf. searches_none v e (λ k M. Pair M e f k) (AtFirst v f right) _ q (drop_end _ (spreads_of v right) 0 c.spreads-on_right.ensures (omega (arith, none)))))
    (c.in_ok-wait.ensures.waits v (λ none q lf. searches_none v e (λ k M. Pair M e k h) (AtPartners v left (partner.Second h)) _ q (drop_end _ (spreads_of v left) 0 c.spreads-on_left.ensures (omega (arith, none))))) c.in_ok-next_own.ensures.turns

pub returns-clause-pays : goal.returns-clause-pays
returns-clause-pays g c =
    let v = world g.J.Judge.judgement c.args.graph.now in
    two_pay v c.args.graph.now.falling c.args.e c.args.f c.args.g c.set-left.result c.set-right.result _ _ _ _ _ _ _ c.set-left.ensures c.set-right.ensures
    (sym c.is_compared.ensures ∙ c.if-is_compared.false) (search rules) (search rules) c.in_ok-note_pair.ensures
    (c.in_ok-wait.ensures.costs v) (c.in_ok-wait-2.ensures.costs v) c.in_ok-next_own.ensures.pays
