-- What is known of response names while fields are looked through.
use Rattle.std.proofs.Common.{◌≡◌, ◌∷◌, [], ℕ, zero, suc, ◌+◌, ◌<◌, ◌≤◌, List, Some, Option, Bool, true, false, inl, inr, refl, sym, subst, ◌∙◌, arith, length, take, get_or, slice_get}
use Rattle.std.specs.List.{All, Contains}
use Rattle.std.proofs.lemmas.List.{take_all}
use Rattle.std.proofs.lemmas.List.Elements.{All-more, All-contains, Contains-get_or}
use Rattle.bit_matrix.specs.Set.{has}
use Rattle.bit_matrix.specs.declared.set.BitSet.{BitSet}
use Rattle.merge_sets.specs.declared.node.Entry.{Entry}
use Rattle.merge_sets.specs.declared.plain_names.Seen.{Seen}
use Rattle.merge_sets.specs.World.{World, conflict_of}
use Rattle.merge_sets.specs.Judgement.{Judgement, AlikeAgree}
use Rattle.merge_sets.specs.Names.{named, AreListed}
use Rattle.merge_sets.specs.Kinds.{IsToldOf}
use Rattle.merge_sets.specs.Firsts.{IsFirst, IsNoted, Notes}
use Rattle.merge_sets.specs.Plain.{ArePlainBut, HasAllMarked, Occurs, IsPlainName}
use Rattle.merge_sets.proofs.Laws.{clash}
use Rattle.merge_sets.proofs.OneName.{named_in, listed_in, no_entry}

one_first : {one two : ℕ} (o : Option (Option ℕ)) → o ≡ Some (Some one) → o ≡ Some (Some two) → one ≡ two
one_first o p q = cc

module _ (alike : ℕ → ℕ → Type 0) where
  -- a name that isn't marked is plain
  pub plain_name : (w : World) → AlikeAgree w.judgement alike → (seen : Seen) → ((a : Entry) → Occurs w a → IsNoted alike seen a)
      → (n : ℕ) → has seen.mixed n ≡ false → IsPlainName w n
  plain_name w agree seen all n clean e a b p q here there = agreed (all a p) (all b q)
    where
      unmarked : (x : Entry) → x.response ≡ n → has seen.mixed x.response ≡ true → ⊥
      unmarked x is h = clash (has seen.mixed x.response) h (subst (λ (m : ℕ). has seen.mixed m ≡ false) (sym is) clean)

      agreed : IsNoted alike seen a → IsNoted alike seen b → conflict_of w e a b ≡ false
      agreed (inl h) k = absurd (unmarked a here h)
      agreed (inr h) (inl k) = absurd (unmarked b there k)
      agreed (inr h) (inr k) =
          let same : k.0 ≡ h.0 = one_first (slice_get seen.firsts.items n) (subst (λ (m : ℕ). IsFirst seen m k.0) there k.1) (subst (λ (m : ℕ). IsFirst seen m h.0) here h.1) in
          agree e h.0 a.field b.field h.2 (subst (λ (one : ℕ). alike one b.field) same k.2)

  -- marks and first fields stay
  pub stays : (old new : Seen) → ((n : ℕ) → has old.mixed n ≡ true → has new.mixed n ≡ true) → ((n one : ℕ) → IsFirst old n one → IsFirst new n one)
      → (a : Entry) → IsNoted alike old a → IsNoted alike new a
  stays old new marks firsts a (inl h) = inl (marks a.response h)
  stays old new marks firsts a (inr h) = inr (h.0, firsts a.response h.0 h.1, h.2)

  in_one : (x a : Entry) → Contains (x ∷ []) a → x ≡ a
  in_one x a (zero, l, is) = is
  in_one x a (suc k, l, is) = absurd (omega (arith, l))

  pub notes_one : (x : Entry) (old new : Seen) → IsNoted alike new x → ((a : Entry) → IsNoted alike old a → IsNoted alike new a) → Notes alike (x ∷ []) old new
  notes_one x old new here kept = record { noted = λ a p. subst (λ y. IsNoted alike new y) (in_one x a p) here; kept = kept }

  pub notes_none : (fields : List Entry) (seen : Seen) → Notes alike (take 0 fields) seen seen
  notes_none fields seen = record { noted = λ a p. absurd (nothing fields a p); kept = λ a h. h }
    where
      nothing : (fields : List Entry) (a : Entry) → Contains (take 0 fields) a → ⊥
      nothing [] a p = omega (arith, p.1)
      nothing (x ∷ xs) a p = omega (arith, p.1)

  pub notes_more : (fields : List Entry) (k : ℕ) {old mid new : Seen} → k < length fields
      → Notes alike (take k fields) old mid → Notes alike (get_or fields k no_entry ∷ []) mid new → Notes alike (take (k + 1) fields) old new
  notes_more fields k {old} {mid} {new} l h one =
      let before : All (IsNoted alike new) (take k fields) = λ i d lt. one.kept (get_or (take k fields) i d) (h.noted (get_or (take k fields) i d) (Contains-get_or (take k fields) i d lt)) in
      let all = All-more (IsNoted alike new) fields k no_entry l before (one.noted (get_or fields k no_entry) (0, omega arith, refl)) in
      record {
        noted = λ a p. All-contains (IsNoted alike new) (take (k + 1) fields) a all p;
        kept = λ a q. one.kept a (h.kept a q);
      }

  pub notes_all : (fields own : List Entry) (k : ℕ) {old new : Seen} → length fields ≤ k → fields ≡ own → Notes alike (take k fields) old new → Notes alike own old new
  notes_all fields own k {old} {new} l is h = subst (λ xs. Notes alike xs old new) is (subst (λ xs. Notes alike xs old new) (take_all k fields l) h)

-- what is told of a name stays true
pub told_more : (j : Judgement) (own : List Entry) (old new : BitSet) (n : ℕ) → ((m : ℕ) → has old m ≡ true → has new m ≡ true) → IsToldOf j own old n → IsToldOf j own new n
told_more j own old new n kept (inl h) = inl (kept n h)
told_more j own old new n kept (inr h) = inr h

-- what is told of the first field of each name is told of all
pub told_all : (P : ℕ → Type 0) (firsts own : List Entry) → AreListed firsts own → All (λ (f : Entry). P f.response) firsts → All (λ (a : Entry). P a.response) own
told_all P firsts own listed told k d l =
    let (f, there, is) = listed_in firsts own (get_or own k d) listed (Contains-get_or own k d l) in
    subst P (sym is) (All-contains (λ (f : Entry). P f.response) firsts f told there)

-- a name is plain that was plain before, or of whose fields no two fail with each other
pub names_plain : (w : World) (marked mixed : BitSet) (own : List Entry) → ArePlainBut w marked → HasAllMarked w marked own
    → All (λ (a : Entry). IsToldOf w.judgement own mixed a.response) own → ArePlainBut w mixed
names_plain w marked mixed own but all told n clean = cases (has marked n) refl
  where
    agreed : {a b : Entry} (e : Bool) → a.response ≡ n → b.response ≡ n → Contains own a → Contains own b → IsToldOf w.judgement own mixed a.response → conflict_of w e a b ≡ false
    agreed {a} {b} e here there x y (inl h) = absurd (clash (has mixed n) (subst (λ (m : ℕ). has mixed m ≡ true) here h) clean)
    agreed {a} {b} e here there x y (inr none) =
        let group = named a.response own in
        All-contains (λ (z : Entry). conflict_of w e a z ≡ false) group b
        (All-contains (λ (y : Entry). All (λ (z : Entry). conflict_of w e y z ≡ false) group) group a (none e) (named_in a.response own a x refl))
        (named_in a.response own b y (there ∙ sym here))

    cases : (b : Bool) → has marked n ≡ b → IsPlainName w n
    cases false h = but n h
    cases true h = λ e a b p q here there.
        let x : Contains own a = all a p (subst (λ (m : ℕ). has marked m ≡ true) (sym here) h) in
        let y : Contains own b = all b q (subst (λ (m : ℕ). has marked m ≡ true) (sym there) h) in
        agreed e here there x y (All-contains (λ (z : Entry). IsToldOf w.judgement own mixed z.response) own a told x)
