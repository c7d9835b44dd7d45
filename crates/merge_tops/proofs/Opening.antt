-- What the searches of sets open.
use Rattle.std.proofs.Common.{◌≡◌, ◌+◌, ◌*◌, ◌<◌, ◌≤◌, ℕ, zero, suc, List, inl, inr, ap, arith, get_or, length, min, refl, subst, sym, take}
use Rattle.std.specs.Prelude.{sum_by}
use Rattle.std.proofs.lemmas.Bool.{cases_order}
use Rattle.std.proofs.lemmas.List.{take_all}
use Rattle.std.proofs.lemmas.List.Sums.{sum_by_more}
use Rattle.std.proofs.lemmas.Nat.{mul-le}
use Rattle.merge_sets.specs.declared.node.InnerSet.{InnerSet}
use Rattle.merge_sets.specs.Opening.{Opens}
use Rattle.merge_sets.specs.World.{World}
use Rattle.merge_search.specs.declared.state.Search.{Search}
use Rattle.merge_search.specs.Counts.{Tally, all_spreads, greatest, most_repeats, spread_count}
use Rattle.merge_search.specs.Questions.{sum_below}
use Rattle.merge_search.proofs.Tallying.{lists_more}
use Rattle.merge_search.proofs.Worth.{asked_most}
use Rattle.merge_tops.specs.declared.counts.TopCounts.{TopCounts}
use Rattle.merge_tops.specs.TopCounts.{AreWithin, OpensAtTop, OpensCounted, most_openings, top_lists}
use Rattle.merge_tops.proofs.Spends.{distinct_sum}

module _ (w : World) where
  pub opens_none : (k : ℕ) (c : TopCounts) → OpensAtTop w k c c
  opens_none k c = record { lists = omega arith; within = λ h. h }

  pub opens_then : (k l : ℕ) (a b c : TopCounts) → OpensAtTop w k a b → OpensAtTop w l b c → OpensAtTop w (k + l) a c
  opens_then k l a b c p q = record { lists = omega (arith, p.lists, q.lists); within = λ h. q.within (p.within h) }

  pub opens_more : (k l : ℕ) (a b : TopCounts) → k ≤ l → OpensAtTop w k a b → OpensAtTop w l a b
  opens_more k l a b le p = record { lists = omega (arith, le, p.lists); within = p.within }

  -- one after the other of a list
  module _ {X : Type 0} (f : X → ℕ) (xs : List X) (d : X) where
    pub opens_start : (c : TopCounts) → OpensAtTop w (sum_by f (take 0 xs)) c c
    opens_start c = opens_none (sum_by f (take 0 xs)) c

    pub opens_next : (k : ℕ) (a b c : TopCounts) → k < length xs → OpensAtTop w (sum_by f (take k xs)) a b → OpensAtTop w (f (get_or xs k d)) b c → OpensAtTop w (sum_by f (take (k + 1) xs)) a c
    opens_next k a b c less p q = record { lists = omega (arith, p.lists, q.lists, sum_by_more f xs k d less); within = λ h. q.within (p.within h) }

    pub opens_list : (k n : ℕ) (a b : TopCounts) → length xs ≤ k → sum_by f xs ≤ n → OpensAtTop w (sum_by f (take k xs)) a b → OpensAtTop w n a b
    opens_list k n a b past most p = record { lists = omega (arith, p.lists, ap (sum_by f) (take_all k xs past), most); within = p.within }

  -- a search opens each fragment once
  pub opening_counted : (gs hs : List ℕ) (a b : TopCounts) → Opens w gs hs → OpensCounted w hs a b → OpensAtTop w 1 a b
  opening_counted gs hs a b o c =
      let all : sum_by (spread_count w) hs ≤ all_spreads w = distinct_sum (spread_count w) (length w.fragments) hs o.once o.there in
      record {
        lists = omega (arith, c.lists);
        within = λ h. record {
          opened = lists_more (length w.fragments) (length hs) a.opened a.lists b.opened b.lists o.few c.opened c.lists h.opened;
          looked = lists_more (all_spreads w) (min (sum_by (spread_count w) hs) greatest) a.looked a.lists b.looked b.lists (omega (arith, all)) c.looked c.lists h.looked;
        };
      }

ones : (n : ℕ) → sum_below (λ i. 1) n ≡ n
ones zero = refl
ones (suc n) = omega (arith, ones n)

-- both together are within all searches
both_within : (n o p l m c k : ℕ) → c ≡ min (o + p) greatest → k ≡ min (l + m) greatest → o ≤ n * l → p ≤ n * m → c ≤ n * k
both_within n o p l m c k ci ki lo pm = elim (cases_order (l + m) greatest) [
  | inl eq ↦ full (omega (arith, ki, eq))
  | inr o ↦ elim o [
    | inl less ↦ let is : k ≡ l + m = omega (arith, ki, less) in subst (λ (z : ℕ). c ≤ n * z) (sym is) (omega (arith, ci, lo, pm))
    | inr more ↦ full (omega (arith, ki, more))
  ]
]
  where
    some : 0 < n → c ≤ n * greatest
    some pos = omega (arith, ci, pos)

    none : n ≡ 0 → c ≤ n * greatest
    none is =
        let left : o ≤ 0 * l = subst (λ (z : ℕ). o ≤ z * l) is lo in
        let right : p ≤ 0 * m = subst (λ (z : ℕ). p ≤ z * m) is pm in
        omega (arith, ci, left, right, is)

    full : k ≡ greatest → c ≤ n * k
    full is = subst (λ (z : ℕ). c ≤ n * z) (sym is) (elim (cases_order n 0) [
      | inl eq ↦ none eq
      | inr o ↦ elim o [ inl less ↦ absurd (omega (arith, less)) | inr more ↦ some more ]
    ])

all_within : (n o p l c a t : ℕ) → c ≡ min (o + p) greatest → o ≤ a * n → p ≤ n * l → l ≤ t → c ≤ n * (a + t)
all_within n o p l c a t is lo lp le = omega (arith, is, lo, lp, mul-le n l n t (omega arith) le)

module _ (w : World) (inner : List InnerSet) (order : List ℕ) (a b : TopCounts) (s t : Search) (none : a.lists ≡ 0) (no_opened : a.opened ≡ 0) (no_looked : a.looked ≡ 0)
    (at : OpensAtTop w (top_lists inner order) a b) (tally : Tally w s)
    (lists : t.lists ≡ min (s.lists + b.lists) greatest) (opened : t.opened ≡ min (s.opened + b.opened) greatest) (looked : t.looked ≡ min (s.looked + b.looked) greatest) where
  tops : AreWithin w b
  tops = at.within record { opened = omega (arith, no_opened); looked = omega (arith, no_looked) }

  few_lists : b.lists ≤ top_lists inner order
  few_lists = omega (arith, at.lists, none)

  pub opened_by_lists : t.opened ≤ length w.fragments * t.lists
  opened_by_lists = both_within (length w.fragments) s.opened b.opened s.lists b.lists t.opened t.lists opened lists tally.opened tops.opened

  pub opened_linear : t.opened ≤ length w.fragments * most_openings w inner order
  opened_linear =
      let below : s.opened ≤ (2 * length w.sets + most_repeats) * length w.fragments =
      subst (λ (n : ℕ). s.opened ≤ (2 * length w.sets + most_repeats) * n) (ones (length w.fragments)) (omega (arith, tally.linear, asked_most w (λ h. 1) s)) in
      all_within (length w.fragments) s.opened b.opened b.lists t.opened (2 * length w.sets + most_repeats) (top_lists inner order) opened below tops.opened few_lists

  pub looked_linear : t.looked ≤ all_spreads w * most_openings w inner order
  looked_linear =
      let below : s.looked ≤ (2 * length w.sets + most_repeats) * all_spreads w = omega (arith, tally.looked, asked_most w (spread_count w) s) in
      all_within (all_spreads w) s.looked b.looked b.lists t.looked (2 * length w.sets + most_repeats) (top_lists inner order) looked below tops.looked few_lists
