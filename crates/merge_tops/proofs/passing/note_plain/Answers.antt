use Rattle.std.proofs.Common.{◌≡◌, ℕ, ◌<◌, List, true, refl, ◌∙◌, ap, arith, length, get_or}
use Rattle.std.specs.List.{All}
use Rattle.std.proofs.lemmas.List.{get_or_default}
use Rattle.std.proofs.lemmas.List.Elements.{All-contains, All-get_or}
use Rattle.bit_matrix.specs.Set.{has}
use Rattle.bit_matrix.specs.declared.set.BitSet.{BitSet}
use Rattle.merge_search.specs.declared.state.Search.{Search}
use Rattle.merge_sets.specs.World.{World, world}
use Rattle.merge_tops.specs.Tops.{MarkedDone}
use Rattle.merge_search.proofs.Work.{did_none, did_start, did_map, did_more, did_all}
use Rattle.merge_search.proofs.Costs.{spends_none}
use Rattle.merge_tops.proofs.Spends.{spends_then}
use Rattle.merge_tops.proofs.passing.note_plain.Goals as goal

-- one alone has no other beside it
alone : (w : World) (M : Search) (plain : BitSet) (list : List ℕ) → length list < 2 → All (MarkedDone w M plain list) list
alone w M plain list short k d l marked g there less =
    let first : k ≡ there.0 = omega (arith, l, short, there.1) in
    let same : get_or list k d ≡ g = get_or_default list k d g l ∙ ap (λ (i : ℕ). get_or list i g) first ∙ there.2 in
    absurd (omega (arith, same, less))

pub returns-then-list-lt2-clause-done : goal.returns-then-list-lt2-clause-done
returns-then-list-lt2-clause-done g c =
    let v = world g.J.Judge.judgement c.args.graph.now in
    did_none v _ c.args.search.now (λ M grown. alone v M c.args.plain.now c.args.list.now (omega (arith, c.if-list-lt2.true)))

pub note_with-requires : goal.note_with-requires
note_with-requires g c =
    let v = world g.J.Judge.judgement c.args.graph.now in
    record { first = All-get_or (λ (k : ℕ). k < length v.fragments) c.args.list.now c.loop-f.f-index 0 c.loop-f-test.true c.requires.list; plain = c.requires.plain }

pub loop-f-init : goal.loop-f-init
loop-f-init g c =
    let v = world g.J.Judge.judgement c.args.graph.now in
    (did_start v (λ f M. MarkedDone v M c.args.plain.now c.args.list.now f) c.args.list.now c.args.search.now, refl, spends_none v 0 c.args.search.now)

pub loop-f-preserved : goal.loop-f-preserved
loop-f-preserved g c =
    let v = world g.J.Judge.judgement c.args.graph.now in (
      did_more v (λ f M. MarkedDone v M c.args.plain.now c.args.list.now f) c.args.list.now c.loop-f.f-index 0 c.loop-f-test.true c.loop-f.invariant.0
          (did_map v _ _ (λ M h marked k there less. h marked k (All-contains (λ (x : ℕ). has c.in_ok-all.all x ≡ true) c.args.list.now k c.in_ok-all.ensures.all there) less) c.in_ok-note_with.ensures.done),
      c.in_ok-note_with.ensures.real ∙ c.loop-f.invariant.1,
      spends_then v 0 0 _ _ _ c.loop-f.invariant.2 c.in_ok-note_with.ensures.spends,
    )

pub returns : goal.returns
returns g c =
    let v = world g.J.Judge.judgement c.args.graph.now in
    record {
      done = did_all v (λ f M. MarkedDone v M c.args.plain.now c.args.list.now f) c.args.list.now c.args.list.now c.loop-f.f-index c.loop-f-test.false refl c.loop-f.invariant.0;
      real = c.loop-f.invariant.1;
      spends = c.loop-f.invariant.2;
    }
