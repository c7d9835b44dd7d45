-- Pairs that are settled at once.
use Rattle.std.proofs.Common.{◌≡◌, ◌⊎◌, ◌++◌, ◌∷◌, [], ℕ, Bool, true, false, Some, None, inl, subst, sym, length, ap, arith, ◌∙◌}
use Rattle.std.specs.Bool.{OnTrue}
use Rattle.std.specs.List.{Contains}
use Rattle.std.proofs.lemmas.List.Elements.{All-contains}
use Rattle.merge_sets.specs.declared.node.Entry.{Entry}
use Rattle.merge_search.specs.declared.state.Search.{Search}
use Rattle.merge_sets.specs.Clear.{AreLeaves, IsClearBelow}
use Rattle.merge_sets.specs.Merging.{Stands, own, spread, below, merges}
use Rattle.merge_search.specs.Reports.{AddsAll, AtFields}
use Rattle.merge_search.specs.State.{Keeps, Reports}
use Rattle.merge_search.specs.Tasks.{MeetsFields}
use Rattle.merge_sets.specs.declared.finding.Finding.TheVariants.{Direct}
use Rattle.merge_search.specs.Settle.{AgreesWith, AgreeFlatly, IsSpreadless, Settles}
use Rattle.merge_search.specs.Work as done
use Rattle.merge_sets.specs.World.{World, own_of, conflict_of, exclusive_of, Same}
use Rattle.merge_search.proofs.Adding.{adds_none, all_leaf, all_quiet}
use Rattle.merge_certificates.proofs.ClearLists.{leaf_below}
use Rattle.merge_sets.proofs.Laws.{same_some}
use Rattle.merge_search.proofs.Work.{did_kept, did_map, did_none, did_report}

module _ (w : World) where
  -- what stands in a set that spreads nothing is an own field
  stands_own : (s : ℕ) (c : Entry) → IsSpreadless w s → Stands w s c → Contains (own_of w s) c
  stands_own s c none (own p) = p
  stands_own s c none (spread v p) = absurd (omega (arith, v.1, ap length none))

  pub flat_below : (e : Bool) (a b : Entry) (i j : ℕ) → a.below ≡ Some i → b.below ≡ Some j → IsSpreadless w i → IsSpreadless w j → AreLeaves (own_of w i)
      → AgreeFlatly w (exclusive_of w e a b) (own_of w i) (own_of w j) → IsClearBelow w e a b
  flat_below e a b i j left right nothing none leaves agree c d (below {s = s} {t = t} sa tb p q same) =
      let p' : Contains (own_of w i) c = stands_own i c nothing (subst (λ (u : ℕ). Stands w u c) (same_some s i a.below sa left) p) in
      let q' : Contains (own_of w j) d = stands_own j d none (subst (λ (u : ℕ). Stands w u d) (same_some t j b.below tb right) q) in
      merges {a = c} {b = d}
      (All-contains (λ (y : Entry). Same c y → conflict_of w (exclusive_of w e a b) c y ≡ false) (own_of w j) d (All-contains (λ (x : Entry). AgreesWith w (exclusive_of w e a b) x (own_of w j)) (own_of w i) c agree p') q' same)
      (leaf_below w (exclusive_of w e a b) c d (inl (All-contains (λ (x : Entry). x.below ≡ None) (own_of w i) c leaves p')))

  -- two fields that don't fail are done if it is known that what stands below merges
  pub settles : (e : Bool) (a b : Entry) (s t : Search) → Keeps s t → conflict_of w e a b ≡ false → (is : Bool) → OnTrue is (IsClearBelow w e a b) → Settles w e a b is s t
  settles e a b s t keeps passes true clear = record {
    done = did_kept w _ keeps (did_none w _ s (λ M grown. done.merged (merges {a = a} {b = b} passes clear)));
    real = subst (λ zs. AddsAll w e (AtFields a b) (AtFields a b) s.found.items zs) (sym keeps.found) (all_quiet w e a b passes (adds_none w e _ _));
  }
  settles e a b s t keeps passes false clear = (keeps, passes)

  -- two fields of which one has nothing below
  pub leaf_settled : (e : Bool) (a b : Entry) (s t : Search) → Keeps s t → conflict_of w e a b ≡ false → (a.below ≡ None) ⊎ (b.below ≡ None) → MeetsFields w e a b s t
  leaf_settled e a b s t keeps passes leaf = record {
    done = did_kept w _ keeps (did_none w _ s (λ M grown. done.shallow passes leaf));
    real = subst (λ zs. AddsAll w e (AtFields a b) (AtFields a b) s.found.items zs) (sym keeps.found) (all_quiet w e a b passes (adds_none w e _ _));
  }

  -- two fields that fail are reported
  pub failing_settled : (e : Bool) (a b : Entry) (s t u : Search) → Keeps s t → conflict_of w e a b ≡ true → Reports (Direct a b e) t u → MeetsFields w e a b s u
  failing_settled e a b s t u keeps fails told = record {
    done = did_map w _ _ (λ M z. done.stood fails z.1) (did_report w (λ M. Unit {0}) (Direct a b e) told (did_kept w _ keeps (did_none w (λ M. Unit {0}) s (λ M z. tt))));
    real = all_leaf w e a b _ _ fails (told.found ∙ ap (λ xs. xs ++ Direct a b e ∷ []) keeps.found);
  }

-- what was kept twice is kept
pub kept_twice : {s t u : Search} → Keeps s t → Keeps t u → Keeps s u
kept_twice a b = record {
  pairs = b.pairs ∙ a.pairs;
  searched = b.searched ∙ a.searched;
  found = b.found ∙ a.found;
  compared = b.compared ∙ a.compared;
  opened = b.opened ∙ a.opened;
  looked = b.looked ∙ a.looked;
  lists = b.lists ∙ a.lists;
  repeated = b.repeated ∙ a.repeated;
}
