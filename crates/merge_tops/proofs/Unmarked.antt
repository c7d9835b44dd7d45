-- What is asked of some fragments, where all others are plain.
use Rattle.std.proofs.Common.{ℕ, List, inl, inr, ◌⊎◌, false}
use Rattle.std.specs.List.{All, Contains}
use Rattle.std.proofs.lemmas.List.Elements.{All-contains, All-weaker}
use Rattle.merge_search.specs.declared.state.Search.{Search}
use Rattle.merge_sets.specs.declared.finding.Finding.{Finding}
use Rattle.merge_sets.specs.World.{World, set_of}
use Rattle.merge_sets.specs.Merging.{own}
use Rattle.merge_sets.specs.Plain.{IsPlain}
use Rattle.merge_search.specs.Reports.{AddsAll}
use Rattle.merge_search.specs.Work.{merged}
use Rattle.merge_tops.specs.Tops.{AreAllBut, AtSpreads, OwnWritten}
use Rattle.merge_search.proofs.Adding.{all_map}
use Rattle.merge_sets.proofs.Harmless.{sets_merge, sets_quiet}
use Rattle.merge_sets.proofs.Laws.{clash}

module _ (w : World) where
  pub all_written : (M : Search) (s : ℕ) (list others : List ℕ) → AreAllBut w list list others → All (λ g. OwnWritten w M s g) others → All (λ g. OwnWritten w M s g) list
  all_written M s list others but all =
      All-weaker (λ g. Contains others g ⊎ IsPlain w (set_of w g)) (λ g. OwnWritten w M s g) (λ g z. elim z [
        | inl there ↦ All-contains (λ h. OwnWritten w M s h) others g all there
        | inr is ↦ λ a b p q same. merged (sets_merge w (inr is) (own p) q same)
      ]) list but.all

  pub told_written : (s : ℕ) (list others : List ℕ) {xs ys : List Finding} → AreAllBut w list list others
      → AddsAll w false (AtSpreads w s others) (AtSpreads w s others) xs ys → AddsAll w false (AtSpreads w s list) (AtSpreads w s list) xs ys
  told_written s list others but d =
      let wide = all_map w false (AtSpreads w s others) (AtSpreads w s list) (AtSpreads w s others) (λ r z. (z.0, All-contains (λ g. Contains list g) others z.0 but.only z.1, z.2)) d in
      record {
        adds = wide.adds;
        tells = λ room r at fails. elim (All-contains (λ g. Contains others g ⊎ IsPlain w (set_of w g)) list at.0 but.all at.1) [
          | inl there ↦ wide.tells room r (at.0, there, at.2) fails
          | inr is ↦ absurd (clash _ fails (sets_quiet w false (inr is) (own at.2.0) at.2.1 at.2.2))
        ];
      }
