-- A set in which all merges is passed over.
use Rattle.std.proofs.Common.{◌≡◌, ◌∷◌, [], ℕ, ◌<◌, List, Bool, true, false, inl, inr, sym, subst, length}
use Rattle.std.specs.List.{All, Contains}
use Rattle.std.proofs.lemmas.List.Elements.{All-weaker, Contains-get_or, Contains-push}
use Rattle.merge_sets.specs.declared.node.Entry.{Entry}
use Rattle.merge_search.specs.declared.state.Search.{Search}
use Rattle.merge_sets.specs.declared.finding.Finding.{Finding}
use Rattle.merge_sets.specs.Graph.{Falling}
use Rattle.merge_sets.specs.Merging.{Stands, own, spread, Merges, MergeWritten}
use Rattle.merge_certificates.specs.Quiet.{AreQuiet, IsFrom}
use Rattle.merge_search.specs.Reports.{Root, AddsAll, AtPlaces}
use Rattle.merge_tops.specs.Tops.{AllBefore, AtTop, Top}
use Rattle.merge_search.specs.Work as done
use Rattle.merge_search.specs.Work.{Pair}
use Rattle.merge_sets.specs.World.{World, own_of, spreads_of, set_of, conflict_of, Same}
use Rattle.merge_search.proofs.Adding.{adds_none, merges_none}
use Rattle.merge_sets.proofs.Laws.{clash}
use Rattle.merge_sets.proofs.InOrder.{at_of}

-- what a set spreads is there
pub are_there : (w : World) (s : ℕ) (list : List ℕ) → Falling w.sets w.fragments → list ≡ spreads_of w s → All (λ k. k < length w.fragments) list
are_there w s list falling is = subst (λ zs. All (λ k. k < length w.fragments) zs) (sym is)
    (All-weaker (λ k. (k < length w.fragments) × (set_of w k < s)) (λ k. k < length w.fragments) (λ k z. z.0) (spreads_of w s) (falling s).1)

module _ (w : World) (s : ℕ) (quiet : AreQuiet w false (s ∷ [])) where
  any : (e : Bool) → IsFrom false e
  any e h = cc

  two : (e : Bool) (a b : Entry) → Stands w s a → Stands w s b → Same a b → Merges w e a b
  two e a b p q same = quiet e s s a b (any e) (Contains-push [] s) (Contains-push [] s) p q same

  pub spreads_merge : (f g : ℕ) → Contains (spreads_of w s) f → Contains (spreads_of w s) g → MergeWritten w f g
  spreads_merge f g v z e a b p q same = two e a b (spread v p) (spread z q) same

  pub top_merged : (M : Search) → AllBefore (Pair M false) (spreads_of w s) → Top w M s
  top_merged M pairs = (
    λ k l a b less p q same. done.merged (two false a b (own (at_of (own_of w s) k a p)) (own (at_of (own_of w s) l b q)) same),
    λ k d l a b p q same. done.merged (two false a b (own p) (spread (Contains-get_or (spreads_of w s) k d l) q) same),
    λ k l f g less p q. pairs k l f g less p q,
  )

  none : (a b : Entry) → Stands w s a → Stands w s b → Same a b → conflict_of w false a b ≡ true → ⊥
  none a b p q same fails = clash (conflict_of w false a b) fails (merges_none (two false a b p q same))

  told : (r : Root) → AtTop w s r → conflict_of w false r.left r.right ≡ true → ⊥
  told r (inl h) fails = none r.left r.right (own (at_of (own_of w s) h.0.0 r.left h.0.3)) (own (at_of (own_of w s) h.0.1 r.right h.0.4)) h.1 fails
  told r (inr h) fails = none r.left r.right (own h.2.0) (spread h.1 h.2.1) h.2.2 fails

  pub top_tells : (xs : List Finding) → AddsAll w false (AtPlaces w s) (AtTop w s) xs xs
  top_tells xs = record { adds = adds_none w false (AtPlaces w s) xs; tells = λ room r at fails. absurd (told r at fails) }
