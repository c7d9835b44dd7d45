-- Lists of fields that merge with each other.
use Rattle.std.proofs.Common.{◌≡◌, ◌++◌, ◌∙◌, ℕ, List, Bool, true, false, ap, arith, get_or, inl, inr, ◌⊎◌, length, length-append, None, Some, slice_get, subst, sym, ◌<◌}
use Rattle.std.specs.Bool.{OnTrue}
use Rattle.std.specs.List.{All}
use Rattle.std.proofs.Math.ListN.{get_or-append}
use Rattle.std.proofs.lemmas.List.Elements.{All-contains, Contains-get_or}
use Rattle.std.proofs.lemmas.Option.{get_or_from_slice_get, slice_get-get_or, slice_get_within}
use Rattle.bit_matrix.specs.Set.{has}
use Rattle.bit_matrix.specs.declared.set.BitSet.{BitSet}
use Rattle.merge_certificates.specs.TwoSets.{BeginWith}
use Rattle.merge_sets.specs.declared.node.Entry.{Entry}
use Rattle.merge_sets.specs.Clear.{IsClear, AreClear, AreClearRows, AreLeaves, IsClearBelow, AreClearBelow, AreClearRowsBelow}
use Rattle.merge_sets.specs.Judgement.{NoneConflict}
use Rattle.merge_sets.specs.Kinds.{NeverFailsWith, AreAgreeingRows}
use Rattle.merge_sets.specs.Merging.{merges, below}
use Rattle.merge_sets.specs.World.{World}
use Rattle.merge_sets.proofs.Laws.{clash_some}

module _ (w : World) (e : Bool) where
  -- where nothing stands below one of them there is nothing to merge
  pub leaf_below : (a b : Entry) → (a.below ≡ None) ⊎ (b.below ≡ None) → IsClearBelow w e a b
  leaf_below a b (inl none) c d (below {s = s} sa tb p q same) = absurd (clash_some s a.below sa none)
  leaf_below a b (inr none) c d (below {t = t} sa tb p q same) = absurd (clash_some t b.below tb none)

  pub lefts_below : (left right : List Entry) → AreLeaves left → AreClearBelow w e left right
  lefts_below left right none a b p q = leaf_below a b (inl (All-contains (λ (x : Entry). x.below ≡ None) left a none p))

  pub rights_below : (left right : List Entry) → AreLeaves right → AreClearBelow w e left right
  rights_below left right none a b p q = leaf_below a b (inr (All-contains (λ (x : Entry). x.below ≡ None) right b none q))

  -- a field that fails with none of some others merges with them, if what stands below does
  pub one_clear : (a : Entry) (others : List Entry) → NeverFailsWith w.judgement e a others → All (IsClearBelow w e a) others → IsClear w e a others
  one_clear a others never rest = λ k d l. merges {a = a} {b = get_or others k d} (never k d l) (rest k d l)

  pub lists_clear : (left right : List Entry) → NoneConflict w.judgement e left right → AreClearBelow w e left right → AreClear w e left right
  lists_clear left right none rest = λ k d l.
      one_clear (get_or left k d) right (none k d l) (λ m f h. rest (get_or left k d) (get_or right m f) (Contains-get_or left k d l) (Contains-get_or right m f h))

  rows_clear : (left right : List Entry) (rows : BitSet) → AreAgreeingRows w.judgement e left right rows → AreClearBelow w e left right → AreClearRows w e left right rows
  rows_clear left right rows agree rest = λ k a p h.
      one_clear a right (agree k a p h) (λ m f l. rest a (get_or right m f) (k, slice_get_within left k a p, get_or_from_slice_get left k a a p) (Contains-get_or right m f l))

  pub rows_below : (b : Bool) (left right : List Entry) (rows : BitSet) → AreAgreeingRows w.judgement e left right rows → OnTrue b (AreClearBelow w e left right) → b ≡ true
      → AreClearRows w e left right rows
  rows_below true left right rows agree rest is = rows_clear left right rows agree rest
  rows_below false left right rows agree rest is = cc

  -- where nothing stands below the fields whose places are listed, or what does merges
  pub both_clear : (left right : List Entry) (rows lower both : BitSet) → AreAgreeingRows w.judgement e left right rows
      → AreClearRowsBelow w e left right lower
      → ((k : ℕ) (a : Entry) → slice_get left k ≡ Some a → has both k ≡ true → (has rows k ≡ true) × ((a.below ≡ None) ⊎ (has lower k ≡ true)))
      → AreClearRows w e left right both
  both_clear left right rows lower both agree clear is k a p h =
      let z = is k a p h in
      one_clear a right (agree k a p z.0) (elim z.1 [
        | inl leaf ↦ λ m f l. leaf_below a (get_or right m f) (inl leaf)
        | inr there ↦ clear k a p there
      ])

-- a list begins with its first part
pub begin_with : (xs ys zs : List Entry) → zs ≡ xs ++ ys → BeginWith zs xs
begin_with xs ys zs is k a p =
    let inside : k < length xs = slice_get_within xs k a p in
    subst (λ us. slice_get us k ≡ Some a) (sym is)
    (slice_get-get_or (xs ++ ys) k a (omega (arith, inside, length-append xs ys)) ∙ ap (λ y. Some y) (get_or-append xs ys a k inside ∙ get_or_from_slice_get xs k a a p))
