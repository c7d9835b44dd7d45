-- All that is asked of the spreads of a set, where some are plain.
use Rattle.std.proofs.Common.{◌≡◌, ℕ, ◌+◌, ◌<◌, List, [], ◌∷◌, length, take, get_or, Some, inl, inr, ◌⊎◌, subst, sym, false, slice_get}
use Rattle.std.specs.List.{All, Contains}
use Rattle.std.proofs.lemmas.Bool.{cases_order}
use Rattle.std.proofs.lemmas.List.Elements.{All-contains, All-weaker, All-more, Contains-get_or, Contains-push, Contains-push_cases, Contains-append_left}
use Rattle.std.proofs.lemmas.Option.{slice_get_within, get_or_from_slice_get}
use Rattle.bit_matrix.specs.declared.set.BitSet.{BitSet}
use Rattle.merge_search.specs.declared.state.Search.{Search}
use Rattle.merge_sets.specs.World.{World, set_of}
use Rattle.merge_search.specs.Work.{Pair}
use Rattle.merge_sets.specs.Plain.{IsPlain}
use Rattle.merge_tops.specs.Tops.{AllBefore, SpreadDone, MarkedDone, AddsUnmarked, AreAllBut}
use Rattle.merge_search.proofs.Flips.{flip_pair}

module _ (w : World) (M : Search) (plain : BitSet) (list : List ℕ) (all : All (SpreadDone w M plain list) list) (marked : All (MarkedDone w M plain list) list) where
  -- one of the two isn't marked, or both were noted together
  two : (f g : ℕ) → Contains list f → Contains list g → Pair M false f g
  two f g p q = elim (All-contains (SpreadDone w M plain list) list f all p) [
    | inr paired ↦ All-contains (Pair M false f) list g paired q
    | inl first ↦ elim (All-contains (SpreadDone w M plain list) list g all q) [
      | inr paired ↦ flip_pair M false g f (All-contains (Pair M false g) list f paired p)
      | inl second ↦ elim (cases_order f g) [
        | inl same ↦ inl same
        | inr o ↦ elim o [
          | inl less ↦ flip_pair M false g f ((All-contains (MarkedDone w M plain list) list g marked q) second f p less)
          | inr more ↦ (All-contains (MarkedDone w M plain list) list f marked p) first g q more
        ]
      ]
    ]
  ]

  at : (k f : ℕ) → slice_get list k ≡ Some f → Contains list f
  at k f h = (k, slice_get_within list k f h, get_or_from_slice_get list k f f h)

  pub spreads_done : AllBefore (Pair M false) list
  spreads_done k l f g less p q = two f g (at k f p) (at l g q)

-- each fragment of a list was noted with all that have smaller numbers
pub all_noted : (M : Search) (list : List ℕ) → All (λ f. (g : ℕ) → Contains list g → g < f → Pair M false f g) list → AllBefore (Pair M false) list
all_noted M list all k l f g less p q =
    let here : Contains list f = (k, slice_get_within list k f p, get_or_from_slice_get list k f f p) in
    let there : Contains list g = (l, slice_get_within list l g q, get_or_from_slice_get list l g g q) in
    elim (cases_order f g) [
      | inl same ↦ inl same
      | inr o ↦ elim o [
        | inl fewer ↦ flip_pair M false g f (All-contains (λ x. (y : ℕ) → Contains list y → y < x → Pair M false x y) list g all there f here fewer)
        | inr more ↦ All-contains (λ x. (y : ℕ) → Contains list y → y < x → Pair M false x y) list f all here g there more
      ]
    ]

-- one more of a list
pub unmarked_more : (w : World) (list old new : List ℕ) (k d : ℕ) → k < length list → AreAllBut w list (take k list) old → AddsUnmarked w (get_or list k d) old new → AreAllBut w list (take (k + 1) list) new
unmarked_more w list old new k d l u (inl h) =
    let x = get_or list k d in
    record {
      only = λ i c m. elim (Contains-push_cases old x (get_or new i c) (subst (λ zs. Contains zs (get_or new i c)) h (Contains-get_or new i c m))) [
        | inl before ↦ All-contains (λ g. Contains list g) old (get_or new i c) u.only before
        | inr is ↦ subst (λ (y : ℕ). Contains list y) is (Contains-get_or list k d l)
      ];
      all = All-more (λ g. Contains new g ⊎ IsPlain w (set_of w g)) list k d l
          (All-weaker (λ g. Contains old g ⊎ IsPlain w (set_of w g)) (λ g. Contains new g ⊎ IsPlain w (set_of w g))
          (λ g z. elim z [ inl c ↦ inl (subst (λ zs. Contains zs g) (sym h) (Contains-append_left old (x ∷ []) g c)) | inr p ↦ inr p ]) (take k list) u.all)
          (inl (subst (λ zs. Contains zs x) (sym h) (Contains-push old x)));
    }
unmarked_more w list old new k d l u (inr (h, p)) = record {
  only = subst (λ zs. All (λ g. Contains list g) zs) (sym h) u.only;
  all = subst (λ zs. All (λ g. Contains zs g ⊎ IsPlain w (set_of w g)) (take (k + 1) list)) (sym h) (All-more (λ g. Contains old g ⊎ IsPlain w (set_of w g)) list k d l u.all (inr p));
}
