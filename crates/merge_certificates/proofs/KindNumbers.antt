-- What the numbers of kinds say of fields.
use Rattle.std.proofs.Common.{◌≡◌, ◌⊎◌, ◌<◌, ◌≤◌, ◌+◌, ◌++◌, ◌∷◌, [], ℕ, List, Option, None, Some, Bool, true, false, inl, inr, length, length-append, drop, get_or, slice_get, ap, arith, sym, subst, ◌∙◌}
use Rattle.std.specs.Option.{IfSome}
use Rattle.std.proofs.Math.ListN.{get_or-append}
use Rattle.std.proofs.Math.Seq.{get_or-append_seam}
use Rattle.std.proofs.lemmas.List.{get_or_past}
use Rattle.std.specs.Bool.{OnTrue}
use Rattle.std.proofs.lemmas.List.Elements.{All-contains, All-drop}
use Rattle.merge_sets.specs.declared.node.Entry.{Entry}
use Rattle.std.proofs.lemmas.Bool.{cases_eq, cases_lt}
use Rattle.std.proofs.lemmas.Option.{get_or_from_slice_get, slice_get-get_or}
use Rattle.bit_matrix.specs.Set.{has}
use Rattle.bit_matrix.specs.declared.set.BitSet.{BitSet}
use Rattle.merge_sets.specs.Judgement.{Judgement, KinAgree}
use Rattle.merge_certificates.specs.Failing.{AgreeAt, AgreeKinds, AreNumbered, IsEmpty, IsKindAt, NoneAgrees, StandFor, TellsSome}
use Rattle.merge_sets.proofs.Laws.{clash, same_some}
use Rattle.merge_sets.proofs.InOrder.{at_of}
use Rattle.merge_sets.proofs.OneName.{no_entry}
use Rattle.merge_sets.specs.Kinds.{AreAgreeingRows, NeverFailsWith}

-- a field of a list fails with none of those after it, where its place is listed
pub rows_after : (j : Judgement) (e : Bool) (xs : List Entry) (rows : BitSet) (k : ℕ) → k < length xs → AreAgreeingRows j e xs xs rows
    → (b : Bool) → b ≡ has rows k → OnTrue b (NeverFailsWith j e (get_or xs k no_entry) (drop (k + 1) xs))
rows_after j e xs rows k l clear true is =
    let a = get_or xs k no_entry in
    All-drop (λ (y : Entry). j.conflict e a.field y.field ≡ false) (k + 1) xs (clear k a (slice_get-get_or xs k no_entry l) (sym is))
rows_after j e xs rows k l clear false is = tt

-- a field whose place is listed fails with no other
pub rows_agree : (j : Judgement) (e : Bool) (xs : List Entry) (numbers : List (Option ℕ)) (rows : BitSet) (k : ℕ) → AreAgreeingRows j e xs xs rows
    → (b : Bool) → b ≡ has rows k → OnTrue b (AgreeAt j e xs numbers k None)
rows_agree j e xs numbers rows k clear true is = λ l a b p q agree.
    All-contains (λ (y : Entry). j.conflict e a.field y.field ≡ false) xs b (clear k a p (sym is)) (at_of xs l b q)
rows_agree j e xs numbers rows k clear false is = tt

-- numbered fields fail with each other as their kinds do
pub kinds_stand : (j : Judgement) (kin : ℕ → ℕ → Type 0) → KinAgree j kin → (kinds : List ℕ) (fields : List Entry) (numbers : List (Option ℕ))
    → AreNumbered kin kinds fields numbers → StandFor j kinds fields numbers
kinds_stand j kin law kinds fields numbers are = record {
  there = λ k i a p told. let z = are k i a p told in (z.0, z.1);
  judged = λ e k l one other a b p q left right.
      let x = are k left.0 a p left.1 in
      let y = are l right.0 b q right.1 in
      law e one other a.field b.field
      (subst (λ (n : ℕ). kin n a.field) (same_some x.0 one (slice_get kinds left.0) x.1 left.2) x.2)
      (subst (λ (n : ℕ). kin n b.field) (same_some y.0 other (slice_get kinds right.0) y.1 right.2) y.2);
}

-- of no field is a number told
pub none_stand : (j : Judgement) (kinds : List ℕ) (fields : List Entry) (numbers : List (Option ℕ)) → numbers ≡ [] → StandFor j kinds fields numbers
none_stand j kinds fields numbers none = record {
  there = λ k i a p told. absurd (untold i (sym (ap (λ zs. get_or zs k None) none ∙ get_or_past [] k None (omega arith)) ∙ told));
  judged = λ e k l one other a b p q left right. absurd (untold left.0 (sym (ap (λ zs. get_or zs k None) none ∙ get_or_past [] k None (omega arith)) ∙ left.1));
}
  where
    untold : (i : ℕ) → None ≡ Some i → ⊥
    untold i h = cc

-- no number is told
pub no_number : (numbers : List (Option ℕ)) → numbers ≡ [] → TellsSome numbers → ⊥
no_number numbers none told = untold told.1 (sym (ap (λ zs. get_or zs told.0 None) none ∙ get_or_past [] told.0 None (omega arith)) ∙ told.2)
  where
    untold : (i : ℕ) → None ≡ Some i → ⊥
    untold i h = cc

-- where no number is in the set, no field agrees by its number
pub none_agrees : (numbers : List (Option ℕ)) (set : BitSet) → IsEmpty set → NoneAgrees numbers (Some set)
none_agrees numbers set empty l agrees = clash (has set agrees.0) agrees.2 (empty agrees.0)

-- some number is told where one was, or that of one more field is
pub told_more : (old new : List (Option ℕ)) (one : Option ℕ) → new ≡ old ++ one ∷ [] → TellsSome new → TellsSome old ⊎ ((i : ℕ) × (one ≡ Some i))
told_more old new one is told = elim (cases_lt told.0 (length old)) [
  | inl less ↦ inl (told.0, told.1, sym (ap (λ zs. get_or zs told.0 None) is ∙ get_or-append old (one ∷ []) None told.0 less) ∙ told.2)
  | inr more ↦ elim (cases_eq told.0 (length old)) [
    | inl same ↦
        let here : get_or new told.0 None ≡ one =
        ap (λ zs. get_or zs told.0 None) is ∙ ap (λ n. get_or (old ++ one ∷ []) n None) same ∙ get_or-append_seam old one [] None in
        inr (told.1, sym here ∙ told.2)
    | inr apart ↦ absurd (untold told.1 (sym (ap (λ zs. get_or zs told.0 None) is ∙ get_or_past (old ++ one ∷ []) told.0 None (past more apart)) ∙ told.2))
  ]
]
  where
    untold : (i : ℕ) → None ≡ Some i → ⊥
    untold i h = cc

    past : length old ≤ told.0 → (told.0 ≡ length old → ⊥) → length (old ++ one ∷ []) ≤ told.0
    past more apart = omega (arith, more, apart, length-append old (one ∷ []))

-- a field fails with no field of a kind that its own doesn't fail with
pub kinds_agree : (j : Judgement) (e : Bool) (fields : List Entry) (numbers : List (Option ℕ)) (kinds : List ℕ) (k i one : ℕ) (set : BitSet)
    → StandFor j kinds fields numbers → get_or numbers k None ≡ Some i → slice_get kinds i ≡ Some one → AgreeKinds j e one kinds set
    → AgreeAt j e fields numbers k (Some set)
kinds_agree j e fields numbers kinds k i one set stand told at agree l a b p q there =
    let right = stand.there l there.0 b q there.1 in
    stand.judged e k l one right.0 a b p q (i, told, at) (there.0, there.1, right.1) ∙ agree there.0 right.0 there.2 right.1

-- the numbers of one more field
pub one_numbered : (kin : ℕ → ℕ → Type 0) (kinds : List ℕ) (fields : List Entry) (old new : List (Option ℕ)) (one : Option ℕ) (k : ℕ) → new ≡ old ++ one ∷ []
    → length old ≡ k → IfSome one (IsKindAt kin kinds (get_or fields k no_entry).field) → AreNumbered kin kinds fields old → AreNumbered kin kinds fields new
one_numbered kin kinds fields old new one k is long told before m i a p q = elim (cases_lt m k) [
  | inl less ↦ before m i a p (sym (ap (λ zs. get_or zs m None) is ∙ get_or-append old (one ∷ []) None m (omega (arith, less, long))) ∙ q)
  | inr more ↦ elim (cases_eq m k) [
    | inl same ↦
        let here : get_or new m None ≡ one = ap (λ zs. get_or zs m None) is ∙ ap (λ n. get_or (old ++ one ∷ []) n None) (same ∙ sym long) ∙ get_or-append_seam old one [] None in
        let field : get_or fields k no_entry ≡ a = ap (λ (n : ℕ). get_or fields n no_entry) (sym same) ∙ get_or_from_slice_get fields m a no_entry p in
        subst (λ (y : Entry). IsKindAt kin kinds y.field i) field (of_some one told (sym here ∙ q))
    | inr apart ↦ absurd (none_told (sym (ap (λ zs. get_or zs m None) is ∙ get_or_past (old ++ one ∷ []) m None (past more apart)) ∙ q))
  ]
]
  where
    none_told : None ≡ Some i → ⊥
    none_told h = cc

    of_some : (o : Option ℕ) → IfSome o (IsKindAt kin kinds (get_or fields k no_entry).field) → o ≡ Some i → IsKindAt kin kinds (get_or fields k no_entry).field i
    of_some o h h2 = subst (λ z. IfSome z (IsKindAt kin kinds (get_or fields k no_entry).field)) h2 h

    past : k ≤ m → (m ≡ k → ⊥) → length (old ++ one ∷ []) ≤ m
    past more apart = omega (arith, more, apart, long, length-append old (one ∷ []))
