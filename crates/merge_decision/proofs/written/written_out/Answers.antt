use Rattle.std.proofs.Common.{rules, ◌≡◌, ◌⊎◌, ℕ, List, length, sym, subst, arith}
use Rattle.std.specs.List.{All, Contains}
use Rattle.std.proofs.lemmas.Grind.{common_steps}
use Rattle.std.proofs.lemmas.List.Elements.{All-contains, Contains-get_or}
use Rattle.merge_sets.specs.World.{World, world, set_of, spreads_of}
use Rattle.merge_certificates.specs.Quiet.{AreWrittenOut}
use Rattle.merge_certificates.proofs.Merged.{opened_out}
use Rattle.merge_decision.specs.Held.{AreSpread, IsHeld}
use Rattle.merge_decision.proofs.Opening.{itself_held, written_held}
use Rattle.merge_decision.proofs.written.written_out.Goals as goal

-- sets that spread nothing are written out
alone : (w : World) (sets starts : List ℕ) → length starts ≡ 0 → All (λ s. All (λ f. Contains starts f) (spreads_of w s)) sets → AreWrittenOut w sets sets
alone w sets starts none spreads = record {
  first = λ k d l. Contains-get_or sets k d l;
  closed = λ s f i v. absurd (omega (arith, none, (All-contains (λ g. Contains starts g) (spreads_of w s) f (All-contains (λ t. All (λ g. Contains starts g) (spreads_of w t)) sets s spreads i) v).1));
}

pub returns-then-is_empty-clause-out : goal.returns-then-is_empty-clause-out
returns-then-is_empty-clause-out g c =
    let v = world g.J.Judge.judgement c.args.graph.now in
    let sets = c.args.sets.now in
    let none : length c.in_ok-starts.starts.items ≡ 0 = first_of (search rules, grind (arith, common_steps)) in
    subst (λ zs. AreWrittenOut v sets zs) (sym c.in_ok-written.ensures.items) (alone v sets c.in_ok-starts.starts.items none c.in_ok-starts.ensures.all)

pub returns-then-is_empty-clause-held : goal.returns-then-is_empty-clause-held
returns-then-is_empty-clause-held g c =
    let v = world g.J.Judge.judgement c.args.graph.now in
    let sets = c.args.sets.now in
    subst (λ zs. All (IsHeld v sets) zs) (sym c.in_ok-written.ensures.items) (itself_held v sets)

pub returns-clause-out : goal.returns-clause-out
returns-clause-out g c =
    let v = world g.J.Judge.judgement c.args.graph.now in
    let order = c.open_reached.new.opening.order.items in
    let some = c.args.sets.now in
    let sets = c.add_sets.new.sets.items in
    let copied = c.in_ok-written.ensures.items in
    opened_out v some c.as_slice.result.now order sets
    (subst (λ zs. All (λ s. All (λ f. Contains zs f) (spreads_of v s)) some) (sym c.as_slice.ensures.value) c.in_ok-starts.ensures.all)
    c.in_ok-open_reached.ensures
    (λ s h. c.in_ok-add_sets.ensures.kept s (subst (λ zs. Contains zs s) (sym copied) h))
    (subst (λ zs. All (λ f. Contains sets (set_of v f)) zs) c.as_slice-2.ensures.value c.in_ok-add_sets.ensures.added)
    (λ s h. subst (λ zs. Contains some s ⊎ ((f : ℕ) × Contains zs f × (s ≡ set_of v f))) c.as_slice-2.ensures.value
    (subst (λ zs. Contains zs s ⊎ ((f : ℕ) × Contains c.as_slice-2.result.now f × (s ≡ set_of v f))) copied (c.in_ok-add_sets.ensures.only s h)))

pub returns-clause-held : goal.returns-clause-held
returns-clause-held g c =
    let v = world g.J.Judge.judgement c.args.graph.now in
    let order = c.open_reached.new.opening.order.items in
    let some = c.args.sets.now in
    let starts = c.as_slice.result.now in
    let copied = c.in_ok-written.ensures.items in
    written_held v some starts order c.add_sets.new.sets.items
    (subst (λ zs. AreSpread v some zs) (sym c.as_slice.ensures.value) c.in_ok-starts.ensures.spread)
    c.in_ok-open_reached.ensures.reached
    (λ s h. subst (λ zs. Contains some s ⊎ ((f : ℕ) × Contains zs f × (s ≡ set_of v f))) c.as_slice-2.ensures.value
    (subst (λ zs. Contains zs s ⊎ ((f : ℕ) × Contains c.as_slice-2.result.now f × (s ≡ set_of v f))) copied (c.in_ok-add_sets.ensures.only s h)))
