use Rattle.std.proofs.Common.{◌≡◌, ℕ, [], length, sym, subst, false, arith, ap, ◌∙◌}
use Rattle.std.specs.List.{All, Contains}
use Rattle.std.proofs.lemmas.List.{nil_from_length}
use Rattle.std.proofs.lemmas.List.Elements.{All-nil}
use Rattle.std.proofs.lemmas.Option.{slice_get_within}
use Rattle.std.proofs.lemmas.Result.{on_ok_weaker}
use Rattle.merge_sets.specs.World.{World, world, spreads_of}
use Rattle.merge_search.specs.declared.state.Search.{Search}
use Rattle.merge_search.specs.Work.{Pair}
use Rattle.merge_search.specs.Reports.{AtPlaces}
use Rattle.merge_tops.specs.Tops.{AllBefore, AtSpread, AtSpreads, AtTwo, OwnWritten}
use Rattle.merge_search.proofs.Adding.{adds_none, all_map, all_told, all_plus}
use Rattle.merge_tops.proofs.Judging.{places_written, places_listed}
use Rattle.merge_tops.proofs.Passed.{are_there}
use Rattle.merge_search.proofs.Work.{did_none, did_then, did_map}
use Rattle.merge_search.proofs.Costs.{spends_none}
use Rattle.merge_tops.proofs.Opening.{opens_none}
use Rattle.merge_tops.proofs.Spends.{spends_after_none}
use Rattle.merge_tops.proofs.top.compare_spreads.Goals as goal

-- where nothing is spread
none_spread : (w : World) (M : Search) (s : ℕ) → spreads_of w s ≡ [] → All (λ f. OwnWritten w M s f) (spreads_of w s) × AllBefore (Pair M false) (spreads_of w s)
none_spread w M s none = subst (λ zs. All (λ f. OwnWritten w M s f) zs × AllBefore (Pair M false) zs) (sym none)
    (All-nil (λ f. OwnWritten w M s f), λ k l a b less p q. absurd (omega (arith, slice_get_within [] k a p)))

pub returns-then-is_empty : goal.returns-then-is_empty
returns-then-is_empty g c =
    let v = world g.J.Judge.judgement c.args.graph.now in
    let empty : length c.spreads-list.result.now ≡ 0 = grind (arith, c.is_empty.ensures, c.if-is_empty.true) in
    let none : spreads_of v c.args.s ≡ [] = sym c.spreads-list.ensures ∙ nil_from_length c.spreads-list.result.now empty in
    record {
      done = did_none v _ c.args.search.now (λ M grown. none_spread v M c.args.s none);
      real = record {
        adds = adds_none v false (AtPlaces v c.args.s) c.args.search.now.found.items;
        tells = λ room r at fails. absurd (omega (arith, at.1.1, ap length none));
      };
      spends = spends_none v _ c.args.search.now;
      counts = opens_none v _ c.args.counts.now;
    }

pub write_own-requires : goal.write_own-requires
write_own-requires g c =
    let v = world g.J.Judge.judgement c.args.graph.now in
    record { list = are_there v c.args.s c.spreads-list.result.now c.args.graph.now.falling c.spreads-list.ensures; plain = c.requires }

pub compare_pairs-requires : goal.compare_pairs-requires
compare_pairs-requires g c =
    let v = world g.J.Judge.judgement c.args.graph.now in
    record { list = are_there v c.args.s c.spreads-list.result.now c.args.graph.now.falling c.spreads-list.ensures; plain = c.requires }

pub returns : goal.returns
returns g c =
    let v = world g.J.Judge.judgement c.args.graph.now in
    let s = c.args.s in
    let list = c.spreads-list.result.now in
    let is : list ≡ spreads_of v s = c.spreads-list.ensures in
    record {
      done = on_ok_weaker c.compare_pairs.result
          (λ d. did_map v _ _ (λ M h. subst (λ zs. All (λ f. OwnWritten v M s f) zs × AllBefore (Pair M false) zs) is h) (did_then v _ _ c.in_ok-write_own.ensures.done d)) c.compare_pairs.ensures.done;
      real = on_ok_weaker c.compare_pairs.result (λ d. all_plus v false (AtPlaces v s) (AtSpread v s) (AtTwo v list) (λ r z. places_listed v s z.0 list is z.1 r z.2)
          (all_told v false (AtPlaces v s) (AtSpreads v s list) (AtSpread v s) (λ r z. (z.0, subst (λ zs. Contains zs z.0) (sym is) z.1, z.2))
          (all_map v false (AtSpreads v s list) (AtPlaces v s) (AtSpreads v s list) (λ r z. places_written v s z.0 (subst (λ zs. Contains zs z.0) is z.1) r z.2) c.in_ok-write_own.ensures.real)) d) c.compare_pairs.ensures.real;
      spends = on_ok_weaker c.compare_pairs.result (λ p. spends_after_none v _ _ _ _ c.in_ok-write_own.ensures.spends p) c.compare_pairs.ensures.spends;
      counts = on_ok_weaker c.compare_pairs.result (λ p. c.in_ok-write_own.ensures.counts) c.compare_pairs.ensures.spends;
    }
