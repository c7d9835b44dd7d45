-- Fields below which no name stands in both that is set apart.
use Rattle.std.proofs.Common.{◌≡◌, ◌+◌, ◌<◌, ◌++◌, ◌∷◌, [], ◌≤◌, ℕ, List, Bool, true, false, Option, None, Some, Vec, inl, inr, ◌⊎◌, ap, arith, sym, subst, ◌∙◌, get_or, slice_get, length, length-append}
use Rattle.std.specs.Option.{IfSome}
use Rattle.std.specs.declared.alloc.Global.{Global}
use Rattle.std.proofs.Math.ListN.{get_or-append}
use Rattle.std.proofs.Math.Seq.{get_or-append_seam}
use Rattle.std.proofs.lemmas.Bool.{cases_eq, cases_lt}
use Rattle.std.proofs.lemmas.List.{get_or-append-add, get_or_past}
use Rattle.std.proofs.lemmas.Option.{get_or_from_slice_get, slice_get-get_or, slice_get_within}
use Rattle.std.specs.List.{All, Contains}
use Rattle.std.proofs.lemmas.List.Elements.{All-contains, All-weaker}
use Rattle.bit_matrix.specs.Set.{has}
use Rattle.bit_matrix.specs.declared.set.BitSet.{BitSet}
use Rattle.merge_sets.specs.declared.node.Entry.{Entry}
use Rattle.merge_certificates.specs.declared.touched.Touched.{Touched}
use Rattle.merge_certificates.specs.declared.unions.Union.{Union}
use Rattle.merge_certificates.specs.Unions.{AllJoined}
use Rattle.merge_sets.specs.Merging.{own, spread, below, Merges, merges}
use Rattle.merge_certificates.specs.Quiet.{AllQuietBut, AreKept, AreQuietBut, HoldBelow, MergesBut, merges_but}
use Rattle.merge_certificates.specs.Touched.{AreApart, AreApartAt, AreListedAt, AreTouched, IsFreeOf, KnowsTouched, ListsBelow, StandsIn, TellsOfSome, here, told_at, under}
use Rattle.merge_sets.specs.World.{World, own_of, spreads_of, set_of, exclusive_of, Same}
use Rattle.merge_sets.proofs.Laws.{clash, not_true}
use Rattle.merge_sets.proofs.InOrder.{at_of}

module _ (w : World) (names : BitSet) where
  -- what stands in a set is an own field, whose name is listed, or stands in a set that waits
  pub next_set : (s : ℕ) (found waiting : List ℕ) → All (λ (c : Entry). has names c.response ≡ true → Contains found c.response) (own_of w s)
      → HoldBelow waiting (own_of w s) → All (λ f. Contains waiting (set_of w f)) (spreads_of w s)
      → (d : Entry) → StandsIn w s d → has names d.response ≡ true → Contains found d.response ⊎ ((t : ℕ) × Contains waiting t × StandsIn w t d)
  next_set s found waiting fields sets spreads d (here (own p)) h = inl (All-contains (λ (c : Entry). has names c.response ≡ true → Contains found c.response) (own_of w s) d fields p h)
  next_set s found waiting fields sets spreads d (here (spread {f = f} v p)) h = inr (set_of w f, All-contains (λ g. Contains waiting (set_of w g)) (spreads_of w s) f spreads v, here p)
  next_set s found waiting fields sets spreads d (under {t = t} {a = a} (own p) is m) h = inr (t, All-contains (λ (c : Entry). (u : ℕ) → c.below ≡ Some u → Contains waiting u) (own_of w s) a sets p t is, m)
  next_set s found waiting fields sets spreads d (under (spread {f = f} v p) is m) h = inr (set_of w f, All-contains (λ g. Contains waiting (set_of w g)) (spreads_of w s) f spreads v, under p is m)

  -- of two fields with such names the one or the other is not set apart, nor are two below them
  merge_apart : {e : Bool} {a b : Entry} (ps qs : List ℕ) → AreApart ps qs → MergesBut w (λ n. has names n) e a b → Same a b
      → (has names a.response ≡ true → Contains ps a.response) → (has names b.response ≡ true → Contains qs b.response)
      → ListsBelow w names a ps → ListsBelow w names b qs → Merges w e a b
  merge_apart {a = a} {b = b} ps qs apart (merges_but ok rest) same p q lefts rights = merges {a = a} {b = b}
      (ok (not_true (has names a.response) (λ h.
      let both = ap (λ n. has names n) same in
      apart a.response (p h) (subst (λ n. Contains qs n) (sym same) (q (sym both ∙ h))))))
      (λ c d f. elim f [
        | below {s = s} {t = t} sa tb i j is ↦ merge_apart ps qs apart (rest c d f) is (lefts s sa c (here i)) (rights t tb d (here j))
            (λ u cu x m. lefts s sa x (under i cu m)) (λ u du x m. rights t tb x (under j du m))
      ])

  pub apart_below : (e : Bool) (fields : List Entry) (unions : List Union) (touched : Touched) → AllJoined w e fields unions
      → AllQuietBut w (λ n. has names n) unions → AreTouched w names fields touched → KnowsTouched w e fields touched
  apart_below e fields unions touched joined quiet are k l a b at p q c d f = elim f [
    | below {s = s} {t = t} sa tb i j is ↦
        let left = are k a at.left p at.told_left in
        let right = are l b at.right q at.told_right in
        let u = joined e a b (λ h. h) (at_of fields k a p) (at_of fields l b q) in
        merge_apart at.left.items at.right.items at.apart
        (All-contains (λ (z : Union). AreQuietBut w (λ n. has names n) z.flag z.sets.items) unions u.union quiet u.there (exclusive_of w e a b) s t c d u.from
        (u.left s sa) (u.right t tb) i j is)
        is (left s sa c (here i)) (right t tb d (here j)) (λ u cu x m. left s sa x (under i cu m)) (λ u du x m. right t tb x (under j du m))
  ]

pub no_some : (v : Vec ℕ Global) → None ≡ Some v → ⊥
no_some v is = cc

-- of no place is anything told
pub none_told : (touched : Touched) → touched.lists.items ≡ [] → TellsOfSome touched → ⊥
none_told touched is told = no_some told.1 (sym (ap (λ zs. get_or zs told.0 None) is ∙ get_or_past [] told.0 None (omega arith)) ∙ told.2)

-- so no two places are apart
pub none_at : (touched : Touched) → touched.lists.items ≡ [] → (k l : ℕ) → AreApartAt touched k l → ⊥
none_at touched is k l at = no_some at.left (sym (ap (λ zs. get_or zs k None) is ∙ get_or_past [] k None (omega arith)) ∙ at.told_left)

-- the list of one more field
pub one_told : (w : World) (names : BitSet) (fields : List Entry) (d : Entry) (old new : List (Option (Vec ℕ Global))) (one : Option (Vec ℕ Global)) (k : ℕ)
    → new ≡ old ++ one ∷ [] → length old ≡ k → IfSome one (λ v. ListsBelow w names (get_or fields k d) v.items)
    → ((m : ℕ) (b : Entry) (v : Vec ℕ Global) → slice_get fields m ≡ Some b → get_or old m None ≡ Some v → ListsBelow w names b v.items)
    → (m : ℕ) (b : Entry) (v : Vec ℕ Global) → slice_get fields m ≡ Some b → get_or new m None ≡ Some v → ListsBelow w names b v.items
one_told w names fields d old new one k is long told before m b v p q = elim (cases_lt m k) [
  | inl less ↦ before m b v p (sym (ap (λ zs. get_or zs m None) is ∙ get_or-append old (one ∷ []) None m (omega (arith, less, long))) ∙ q)
  | inr more ↦ elim (cases_eq m k) [
    | inl same ↦
        let here : get_or new m None ≡ one = ap (λ zs. get_or zs m None) is ∙ ap (λ n. get_or (old ++ one ∷ []) n None) (same ∙ sym long) ∙ get_or-append_seam old one [] None in
        let field : get_or fields k d ≡ b = ap (λ n. get_or fields n d) (sym same) ∙ get_or_from_slice_get fields m b d p in
        subst (λ (y : Entry). ListsBelow w names y v.items) field (of_some one told v (sym here ∙ q))
    | inr apart ↦ absurd (no_some v (sym (ap (λ zs. get_or zs m None) is ∙ get_or_past (old ++ one ∷ []) m None (past more apart)) ∙ q))
  ]
]
  where
    of_some : (o : Option (Vec ℕ Global)) → IfSome o (λ v. ListsBelow w names (get_or fields k d) v.items) → (v : Vec ℕ Global) → o ≡ Some v
        → ListsBelow w names (get_or fields k d) v.items
    of_some o h v is = subst (λ z. IfSome z (λ u. ListsBelow w names (get_or fields k d) u.items)) is h

    past : k ≤ m → (m ≡ k → ⊥) → length (old ++ one ∷ []) ≤ m
    past more apart = omega (arith, more, apart, long, length-append old (one ∷ []))

-- the names at one more place
pub one_listed : (touched : Touched) (from l : ℕ) (old new : BitSet) (v : Vec ℕ Global) → told_at touched l ≡ Some v → AreKept old new
    → All (λ (n : ℕ). has new n ≡ true) v.items → AreListedAt touched from l old → AreListedAt touched from (l + 1) new
one_listed touched from l old new v told kept one before m more less = elim (cases_eq m l) [
  | inl same ↦ (v, ap (λ k. told_at touched k) same ∙ told, one)
  | inr apart ↦
      let at = before m more (omega (arith, less, apart)) in
      (at.0, at.1, All-weaker (λ (n : ℕ). has old n ≡ true) (λ (n : ℕ). has new n ≡ true) kept at.0.items at.2)
]

-- a place at which none of the names is listed that are listed at some others
pub free_apart : (touched : Touched) (from to : ℕ) (names : BitSet) → AreListedAt touched from to names → (k l : ℕ) → IsFreeOf touched k names
    → from ≤ l → l < to → AreApartAt touched k l
free_apart touched from to names listed k l free more less =
    let at = listed l more less in
    record {
      left = free.0;
      right = at.0;
      told_left = free.1;
      told_right = at.1;
      apart = λ n p q. clash (has names n) (All-contains (λ (m : ℕ). has names m ≡ true) at.0.items n at.2 q) (All-contains (λ (m : ℕ). has names m ≡ false) free.0.items n free.2 p);
    }

-- fields of two lists, one behind the other
pub left_of : (left right : List Entry) (k : ℕ) (a : Entry) → slice_get left k ≡ Some a → slice_get (left ++ right) k ≡ Some a
left_of left right k a p =
    let inside = slice_get_within left k a p in
    slice_get-get_or (left ++ right) k a (omega (arith, inside, length-append left right))
    ∙ ap (λ (x : Entry). Some x) (get_or-append left right a k inside ∙ get_or_from_slice_get left k a a p)

pub right_of : (left right : List Entry) (m : ℕ) (d : Entry) → m < length right → slice_get (left ++ right) (length left + m) ≡ Some (get_or right m d)
right_of left right m d less =
    slice_get-get_or (left ++ right) (length left + m) d (omega (arith, less, length-append left right))
    ∙ ap (λ (x : Entry). Some x) (get_or-append-add left right m d)
