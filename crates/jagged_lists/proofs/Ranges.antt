-- The ranges of lists in the one that stores them.
use Rattle.std.proofs.Common.{◌≡◌, ℕ, zero, suc, ◌+◌, List, [], ◌∷◌, ◌++◌, Option, Some, None, length, slice_get, append_assoc, append-nil, length-append, refl, ap, sym, ◌∙◌, subst, arith}
use Rattle.std.proofs.lemmas.List.Concat.{flat_map-append}
use Rattle.jagged_lists.specs.declared.lists.FlatLists.{FlatLists}
use Rattle.jagged_lists.specs.Lists.{Holds, joined, list_at, ranges_from}

module _ {X : Type 0} where
  pub joined-more : (ls : List (List X)) (l : List X) → joined (ls ++ l ∷ []) ≡ joined ls ++ l
  joined-more ls l = flat_map-append (λ z. z) ls (l ∷ []) ∙ ap (λ z. joined ls ++ z) (append-nil l)

  pub ranges-more : (n : ℕ) (ls : List (List X)) (l : List X) → ranges_from n (ls ++ l ∷ []) ≡ ranges_from n ls ++ (n + length (joined ls), n + length (joined ls) + length l) ∷ []
  ranges-more n [] l = let e : n + 0 ≡ n = omega arith in ap (λ m. (m, m + length l) ∷ []) (sym e)
  ranges-more n (k ∷ ls) l =
      let long = length-append k (joined ls) in
      let same : n + length k + length (joined ls) ≡ n + length (k ++ joined ls) = omega (arith, long) in
      ap (λ z. (n, n + length k) ∷ z) (ranges-more (n + length k) ls l ∙ ap (λ m. ranges_from (n + length k) ls ++ (m, m + length l) ∷ []) same)

  -- a range that is kept is that of its list
  pub record Stands (items : List X) (start end : ℕ) (l : List X) : Type 0 where
    pub before : List X
    pub after : List X
    pub parts : items ≡ before ++ (l ++ after)
    pub starts : start ≡ length before
    pub ends : end ≡ length before + length l

  pub found : (before after : List X) (ls : List (List X)) (k : ℕ) (p : ℕ × ℕ) → slice_get (ranges_from (length before) ls) k ≡ Some p → Stands (before ++ (joined ls ++ after)) p.0 p.1 (list_at ls k)
  found before after [] k p h = cc
  found before after (l ∷ ls) zero p h =
      let e : (length before, length before + length l) ≡ p = cc in
      record { before = before; after = joined ls ++ after; parts = ap (λ z. before ++ z) (append_assoc l (joined ls) after); starts = sym (ap (λ q. q.0) e); ends = sym (ap (λ q. q.1) e) }
  found before after (l ∷ ls) (suc k) p h =
      let there = found (before ++ l) after ls k p (subst (λ n. slice_get (ranges_from n ls) k ≡ Some p) (sym (length-append before l)) h) in
      record {
        before = there.before;
        after = there.after;
        parts = ap (λ z. before ++ z) (append_assoc l (joined ls) after) ∙ sym (append_assoc before l (joined ls ++ after)) ∙ there.parts;
        starts = there.starts;
        ends = there.ends;
      }

  pub past : (n : ℕ) (ls : List (List X)) (k : ℕ) → slice_get (ranges_from n ls) k ≡ None → list_at ls k ≡ []
  past n [] k h = refl
  past n (l ∷ ls) zero h = cc
  past n (l ∷ ls) (suc k) h = past (n + length l) ls k h

  -- the next list has more items
  pub holds_more : (ls : List (List X)) (next more : List X) (old new : FlatLists X) → Holds ls next old
      → new.items.items ≡ old.items.items ++ more → new.ranges.items ≡ old.ranges.items → new.start ≡ old.start → Holds ls (next ++ more) new
  holds_more ls next more old new h items ranges start =
      record {
        items = items ∙ ap (λ z. z ++ more) h.items ∙ append_assoc (joined ls) next more;
        ranges = ranges ∙ h.ranges;
        start = start ∙ h.start;
      }
