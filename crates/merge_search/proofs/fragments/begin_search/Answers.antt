use Rattle.std.proofs.Common.{◌≡◌, ◌⊎◌, ◌<◌, ◌∙◌, [], ap, arith, inl, inr, length, sym, true}
use Rattle.std.proofs.lemmas.List.{nil_from_length}
use Rattle.merge_search.specs.declared.task.Task.TheVariants.{Opened}
use Rattle.merge_search.specs.declared.state.Search.{Search}
use Rattle.merge_sets.specs.World.{world, own_of}
use Rattle.merge_search.specs.Log.{covers_of}
use Rattle.merge_search.specs.Work.{search_in}
use Rattle.merge_search.specs.Tasks.{Meets, MeetsSearch}
use Rattle.merge_sets.proofs.NoSet.{no_own}
use Rattle.merge_search.proofs.Work.{did_none, covers_yes}
use Rattle.merge_search.proofs.Adding.{adds_none}
use Rattle.merge_search.proofs.Searching.{search_pays_all}
use Rattle.merge_search.proofs.Leading.{leads_done, leads_turn}
use Rattle.merge_search.proofs.Steps.{search_opened}
use Rattle.merge_search.proofs.Weights.{lt_or_le}
use Rattle.merge_search.proofs.fragments.begin_search.Goals as goal
use Rattle.merge_search.proofs.fragments.begin_search.Goals.{then-is_empty-via-then-is_empty, then-is_empty-via-else-is_empty+then-is_settled}

pub returns-then-is_empty-clause-turns : goal.returns-then-is_empty-clause-turns
returns-then-is_empty-clause-turns g c =
    let v = world g.J.Judge.judgement c.args.graph.now in
    let e = c.args.e in
    let i = c.args.i in
    let s = c.args.search.now in
    let known : (own_of v i ≡ []) ⊎ (covers_of (search_in s) e i c.args.g ≡ true) = elim c.then-is_empty.branch [
      | then-is_empty-via-then-is_empty w ↦
          let empty : length c.own.result.now ≡ 0 = grind (arith, c.is_empty.ensures, w.if-is_empty.true) in
          inl (sym c.own.ensures ∙ nil_from_length c.own.result.now empty)
      | then-is_empty-via-else-is_empty+then-is_settled w ↦ inr (w.is_settled.ensures.yes w.if-is_settled.true)
    ] in
    leads_done v (MeetsSearch v e i c.args.g) _ (record {
      done = did_none v _ s (λ M grown. elim known [
        | inl empty ↦ inl empty
        | inr was ↦ let z = covers_yes (search_in s) e i c.args.g was in inr (z.0, z.1, grown.more_searched z.0 i c.args.g z.2)
      ]);
      real = adds_none v e _ _;
    })

pub opened-requires-clause-set : goal.opened-requires-clause-set
opened-requires-clause-set g c =
    let v = world g.J.Judge.judgement c.args.graph.now in
    let some : 0 < length c.own.result.now = grind (arith, c.is_empty.ensures, c.if-is_empty.false) in
    elim (lt_or_le c.args.i (length c.args.graph.now.sets.items)) [
      | inl less ↦ less
      | inr past ↦ absurd (omega (arith, some, ap length c.own.ensures, no_own v c.args.i past))
    ]

pub returns-clause-turns : goal.returns-clause-turns
returns-clause-turns g c =
    let v = world g.J.Judge.judgement c.args.graph.now in
    let e = c.args.e in
    let i = c.args.i in
    let s = c.args.search.now in
    let t : Search = c.opened.new.search in
    let o = c.in_ok-opening.opening in
    leads_turn v (Meets v (Opened i c.args.g e o 0)) (MeetsSearch v e i c.args.g) _ _ t s _
    (λ u d. search_opened v e i c.args.g o.order.items s t u c.in_ok-opening.ensures (d c.in_ok-opening.ensures.opens.reached)) c.in_ok-next_opened.ensures.turns

pub returns-clause-pays : goal.returns-clause-pays
returns-clause-pays g c =
    let v = world g.J.Judge.judgement c.args.graph.now in
    search_pays_all v c.args.graph.now.falling c.args.e c.args.i c.args.g c.in_ok-opening.opening.order.items _ _ c.args.search.now _ _ c.in_ok-opening.ensures c.in_ok-next_opened.ensures.pays
