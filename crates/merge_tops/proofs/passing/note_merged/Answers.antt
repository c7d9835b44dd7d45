use Rattle.std.proofs.Common.{◌≡◌, ◌<◌, ℕ, max, min, true, false, refl, length, get_or, inl, inr, subst, ◌∙◌, arith}
use Rattle.std.specs.List.{Contains}
use Rattle.std.proofs.lemmas.Bool.{cases_lt}
use Rattle.std.proofs.lemmas.List.Elements.{All-contains, All-get_or, Contains-get_or}
use Rattle.bit_matrix.specs.Set.{has}
use Rattle.merge_sets.specs.Merging.{MergeEither}
use Rattle.merge_search.specs.Work.{Pair}
use Rattle.merge_sets.specs.World.{world}
use Rattle.merge_tops.proofs.Spreads.{all_noted}
use Rattle.merge_search.proofs.Work.{did_start, did_map, did_more, did_all, did_below}
use Rattle.merge_search.proofs.Worth.{below_kept}
use Rattle.merge_search.proofs.Costs.{spends_none}
use Rattle.merge_tops.proofs.Spends.{spends_then}
use Rattle.merge_tops.proofs.passing.note_merged.Goals as goal

pub loop-f-init : goal.loop-f-init
loop-f-init g c =
    let v = world g.J.Judge.judgement c.args.graph.now in
    (did_start v (λ f M. (h : ℕ) → Contains c.args.list.now h → h < f → Pair M false f h) c.args.list.now c.args.search.now, refl, spends_none v 0 c.args.search.now)

pub loop-f-preserved : goal.loop-f-preserved
loop-f-preserved g c =
    let v = world g.J.Judge.judgement c.args.graph.now in
    let list = c.args.list.now in
    let k = c.loop-f.f-index in
    let f = get_or list k 0 in
    let here : Contains list f = Contains-get_or list k 0 c.loop-f-test.true in
    let all = c.in_ok-all.all in
    let merge : (i j : ℕ) → max i j ≡ f → has all (min i j) ≡ true → MergeEither v i j = λ i j is among.
    let other : Contains list (min i j) = c.in_ok-all.ensures.only (min i j) among in
    elim (cases_lt j i) [
      | inl more ↦
          let first : f ≡ i = omega (arith, more, is) in
          let second : min i j ≡ j = omega (arith, more) in
          inl (c.requires.merged i j (subst (λ (m : ℕ). Contains list m) first here) (subst (λ (m : ℕ). Contains list m) second other))
      | inr le ↦
          let first : f ≡ j = omega (arith, le, is) in
          let second : min i j ≡ i = omega (arith, le) in
          inl (c.requires.merged i j (subst (λ (m : ℕ). Contains list m) second other) (subst (λ (m : ℕ). Contains list m) first here))
    ] in (
      did_more v (λ f M. (h : ℕ) → Contains list h → h < f → Pair M false f h) list k 0 c.loop-f-test.true c.loop-f.invariant.0
          (did_map v _ _ (λ M p h there less. p h (All-contains (λ (x : ℕ). has all x ≡ true) list h c.in_ok-all.ensures.all there) less)
          (did_below v f (has all) c.in_ok-note_below.ensures (All-get_or (λ (m : ℕ). m < length v.fragments) list k 0 c.loop-f-test.true c.requires.list) merge)),
      c.in_ok-note_below.ensures.found ∙ c.loop-f.invariant.1,
      spends_then v 0 0 _ _ _ c.loop-f.invariant.2 (below_kept v _ _ f (has all) c.in_ok-note_below.ensures),
    )

pub returns : goal.returns
returns g c =
    let v = world g.J.Judge.judgement c.args.graph.now in
    let list = c.args.list.now in
    record {
      done = did_map v _ _ (λ M h. all_noted M list h) (did_all v (λ f M. (h : ℕ) → Contains list h → h < f → Pair M false f h) list list c.loop-f.f-index c.loop-f-test.false refl c.loop-f.invariant.0);
      real = c.loop-f.invariant.1;
      spends = c.loop-f.invariant.2;
    }
