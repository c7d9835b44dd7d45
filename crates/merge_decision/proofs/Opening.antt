-- What stands in the fragments that some sets reach stands in the sets.
use Rattle.std.proofs.Common.{◌≡◌, ◌⊎◌, ℕ, List, get_or, inl, inr, subst}
use Rattle.std.specs.List.{All, Contains}
use Rattle.std.proofs.lemmas.List.Elements.{All-contains, Contains-get_or}
use Rattle.merge_sets.specs.declared.node.Entry.{Entry}
use Rattle.merge_sets.specs.Merging.{Stands, spread}
use Rattle.merge_sets.specs.Opening.{Reaches, start, step, ReachedFrom}
use Rattle.merge_sets.specs.World.{World, set_of}
use Rattle.merge_decision.specs.Held.{IsHeld, AreSpread}

module _ (w : World) where
  reached_stands : {g h : ℕ} {a : Entry} → Reaches w g h → Stands w (set_of w h) a → Stands w (set_of w g) a
  reached_stands start p = p
  reached_stands (step r c) p = reached_stands r (spread c p)

  fragment_held : (sets starts : List ℕ) (f : ℕ) → AreSpread w sets starts → ReachedFrom w starts f → IsHeld w sets (set_of w f)
  fragment_held sets starts f spreads (g, there, reach) a p =
      let (s, at, by) = All-contains (λ h. (s : ℕ) × Contains sets s × Contains (Rattle.merge_sets.specs.World.spreads_of w s) h) starts g spreads there in
      (s, at, spread by (reached_stands reach p))

  pub itself_held : (sets : List ℕ) → All (IsHeld w sets) sets
  itself_held sets = λ k d l a p. (get_or sets k d, Contains-get_or sets k d l, p)

  pub written_held : (sets starts order written : List ℕ) → AreSpread w sets starts → All (ReachedFrom w starts) order
      → ((s : ℕ) → Contains written s → Contains sets s ⊎ ((f : ℕ) × Contains order f × (s ≡ set_of w f))) → All (IsHeld w sets) written
  written_held sets starts order written spreads reached only = λ k d l a p.
      elim (only (get_or written k d) (Contains-get_or written k d l)) [
        | inl at ↦ (get_or written k d, at, p)
        | inr of ↦ fragment_held sets starts of.0 spreads (All-contains (ReachedFrom w starts) order of.0 reached of.1) a
            (subst (λ (t : ℕ). Stands w t a) of.2 p)
      ]
