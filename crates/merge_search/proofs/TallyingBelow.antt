-- How counts grow where many pairs are noted at once.
use Rattle.std.proofs.Common.{◌≡◌, ℕ, zero, suc, ◌+◌, ◌<◌, ◌≤◌, List, [], ◌∷◌, ◌++◌, length, min, max, refl, sym, subst, ap, ◌∙◌, arith, Bool, true, false, not, ◌&&◌, cond, inl, inr, ◌⊎◌, length-append}
use Rattle.std.specs.List.{All, Contains}
use Rattle.std.proofs.lemmas.Bool.{cases_eq, cases_lt}
use Rattle.std.proofs.lemmas.List.Elements.{All-contains, All-push, All-weaker, Contains-push}
use Rattle.bit_matrix.specs.Count.{count_below}
use Rattle.merge_sets.specs.World.{World}
use Rattle.merge_search.specs.declared.state.Search.{Search}
use Rattle.merge_search.specs.Log.{in_log}
use Rattle.merge_search.specs.Work.{pair_in}
use Rattle.merge_search.specs.Counts.{Compared, Repeats, Distinct, Tally, greatest}
use Rattle.merge_search.specs.State.{NotesBelow}
use Rattle.merge_sets.proofs.Laws.{clash}
use Rattle.merge_search.proofs.Tallying.{distinct_push, either_more, linear_same, looked_same, opened_same}

-- a log of the pairs that were asked for, each once
record Logged (A : Bool → ℕ → ℕ → Type 0) (n : ℕ) (log : List Compared) : Type 0 where
  distinct : Distinct log
  within : All (λ r. (r.first < n) × (r.second < n)) log
  recorded : All (λ r. A r.flag r.first r.second) log
  listed : (x : Bool) (f g : ℕ) → A x f g → Contains log (record { first = f; second = g; flag = x }) ⊎ Contains log (record { first = g; second = f; flag = x })

module _ (n f : ℕ) (s t : Search) (short : f < n) (kept : (x : Bool) (i j : ℕ) → pair_in s x i j ≡ true → pair_in t x i j ≡ true) where
  abbrev is_new : ℕ → Bool
  is_new g = pair_in t false f g && not (pair_in s false f g)

  -- those of old, and the new ones of f with the fragments before k
  abbrev Upto : ℕ → Bool → ℕ → ℕ → Type 0
  Upto k x i j = (pair_in s x i j ≡ true) ⊎ ((x ≡ false) × (max i j ≡ f) × (min i j < k) × (pair_in t false f (min i j) ≡ true))

  abbrev new_one : ℕ → Compared
  new_one k = record { first = f; second = k; flag = false }

  at_ends : (M : Search) (i j : ℕ) → max i j ≡ f → min i j < f → pair_in M false i j ≡ pair_in M false f (min i j)
  at_ends M i j is less =
      ap (λ (hi : ℕ). in_log M.pairs false hi (min i j)) (omega (arith, is, less)) ∙ ap (λ (lo : ℕ). in_log M.pairs false (max f (min i j)) lo) (omega (arith, less))

  both_parts : (a b : Bool) → (a && not b) ≡ true → (a ≡ true) × (b ≡ false)
  both_parts true false h = (refl, refl)
  both_parts true true h = cc
  both_parts false b h = cc

  one_part : (a b : Bool) → (a && not b) ≡ false → a ≡ true → b ≡ true
  one_part true true h z = refl
  one_part true false h z = cc
  one_part false b h z = cc

  -- where the next one is no new one
  same_next : (k : ℕ) → k < f → is_new k ≡ false → (x : Bool) (i j : ℕ) → Upto (suc k) x i j → Upto k x i j
  same_next k less old x i j (inl h) = inl h
  same_next k less old x i j (inr h) = elim (cases_eq (min i j) k) [
    | inl is ↦ inl (subst (λ (y : Bool). pair_in s y i j ≡ true) (sym h.0)
        (at_ends s i j h.1 (omega (arith, is, less)) ∙ ap (λ (m : ℕ). pair_in s false f m) is
        ∙ one_part (pair_in t false f k) (pair_in s false f k) old (subst (λ (m : ℕ). pair_in t false f m ≡ true) is h.3)))
    | inr other ↦ inr (h.0, h.1, omega (arith, h.2, other), h.3)
  ]

  more_next : (k : ℕ) (x : Bool) (i j : ℕ) → Upto k x i j → Upto (suc k) x i j
  more_next k x i j (inl h) = inl h
  more_next k x i j (inr h) = inr (h.0, h.1, omega (arith, h.2), h.3)

  ends_of : (i j k : ℕ) → max i j ≡ f → min i j ≡ k → ((i ≡ f) × (j ≡ k)) ⊎ ((i ≡ k) × (j ≡ f))
  ends_of i j k p q = elim (cases_lt j i) [ inl more ↦ inl (omega (arith, p, q, more), omega (arith, p, q, more)) | inr le ↦ inr (omega (arith, p, q, le), omega (arith, p, q, le)) ]

  new_listed : (log : List Compared) (k : ℕ) (x : Bool) (i j : ℕ) → x ≡ false → ((i ≡ f) × (j ≡ k)) ⊎ ((i ≡ k) × (j ≡ f))
      → Contains (log ++ new_one k ∷ []) (record { first = i; second = j; flag = x }) ⊎ Contains (log ++ new_one k ∷ []) (record { first = j; second = i; flag = x })
  new_listed log k x i j is (inl p) = inl (subst (λ (y : Bool). Contains (log ++ new_one k ∷ []) (record { first = i; second = j; flag = y })) (sym is)
      (subst (λ (a : ℕ). Contains (log ++ new_one k ∷ []) (record { first = a; second = j; flag = false })) (sym p.0)
      (subst (λ (b : ℕ). Contains (log ++ new_one k ∷ []) (record { first = f; second = b; flag = false })) (sym p.1) (Contains-push log (new_one k)))))
  new_listed log k x i j is (inr p) = inr (subst (λ (y : Bool). Contains (log ++ new_one k ∷ []) (record { first = j; second = i; flag = y })) (sym is)
      (subst (λ (a : ℕ). Contains (log ++ new_one k ∷ []) (record { first = a; second = i; flag = false })) (sym p.1)
      (subst (λ (b : ℕ). Contains (log ++ new_one k ∷ []) (record { first = f; second = b; flag = false })) (sym p.0) (Contains-push log (new_one k)))))

  -- a pair of the log is not the next new one
  no_repeat : (k : ℕ) → k < f → is_new k ≡ true → (r : Compared) → Upto k r.flag r.first r.second → Repeats r (new_one k) → ⊥
  no_repeat k less new r (inl h) same =
      clash (pair_in s false f k) (old_one same.1) (both_parts (pair_in t false f k) (pair_in s false f k) new).1
    where
      flagged : pair_in s false r.first r.second ≡ true
      flagged = subst (λ (y : Bool). pair_in s y r.first r.second ≡ true) same.0 h

      old_one : ((r.first ≡ f) × (r.second ≡ k)) ⊎ ((r.first ≡ k) × (r.second ≡ f)) → pair_in s false f k ≡ true
      old_one (inl p) = ap (λ (m : ℕ). pair_in s false f m) (omega (arith, p.0, p.1, less)) ∙ sym (at_ends s r.first r.second (omega (arith, p.0, p.1, less)) (omega (arith, p.0, p.1, less))) ∙ flagged
      old_one (inr p) = ap (λ (m : ℕ). pair_in s false f m) (omega (arith, p.0, p.1, less)) ∙ sym (at_ends s r.first r.second (omega (arith, p.0, p.1, less)) (omega (arith, p.0, p.1, less))) ∙ flagged
  no_repeat k less new r (inr h) same = elim same.1 [
    | inl p ↦ omega (arith, h.2, p.0, p.1, less)
    | inr p ↦ omega (arith, h.2, p.0, p.1, less)
  ]

  push : (k : ℕ) → k < f → is_new k ≡ true → (log : List Compared) → Logged (Upto k) n log → Logged (Upto (suc k)) n (log ++ new_one k ∷ [])
  push k less new log h = record {
    distinct = distinct_push log (new_one k) h.distinct (λ eq. omega (arith, eq, less))
        (λ r c same. no_repeat k less new r (All-contains (λ q. Upto k q.flag q.first q.second) log r h.recorded c) same);
    within = All-push (λ r. (r.first < n) × (r.second < n)) log (new_one k) h.within (short, omega (arith, less, short));
    recorded = All-push (λ r. Upto (suc k) r.flag r.first r.second) log (new_one k)
        (All-weaker (λ r. Upto k r.flag r.first r.second) (λ r. Upto (suc k) r.flag r.first r.second) (λ r z. more_next k r.flag r.first r.second z) log h.recorded)
        (inr (refl, omega (arith, less), omega (arith, less), subst (λ (m : ℕ). pair_in t false f m ≡ true) (omega (arith, less)) (both_parts (pair_in t false f k) (pair_in s false f k) new).0));
    listed = λ x i j z. next x i j z;
  }
    where
      next : (x : Bool) (i j : ℕ) → Upto (suc k) x i j
          → Contains (log ++ new_one k ∷ []) (record { first = i; second = j; flag = x }) ⊎ Contains (log ++ new_one k ∷ []) (record { first = j; second = i; flag = x })
      next x i j (inl z) = either_more log (new_one k) (record { first = i; second = j; flag = x }) (record { first = j; second = i; flag = x }) (h.listed x i j (inl z))
      next x i j (inr z) = elim (cases_eq (min i j) k) [
        | inl is ↦ new_listed log k x i j z.0 (ends_of i j k z.1 is)
        | inr other ↦ either_more log (new_one k) (record { first = i; second = j; flag = x }) (record { first = j; second = i; flag = x }) (h.listed x i j (inr (z.0, z.1, omega (arith, z.2, other), z.3)))
      ]

  keep : (k : ℕ) → k < f → is_new k ≡ false → (log : List Compared) → Logged (Upto k) n log → Logged (Upto (suc k)) n log
  keep k less old log h = record {
    distinct = h.distinct;
    within = h.within;
    recorded = All-weaker (λ r. Upto k r.flag r.first r.second) (λ r. Upto (suc k) r.flag r.first r.second) (λ r z. more_next k r.flag r.first r.second z) log h.recorded;
    listed = λ x i j z. h.listed x i j (same_next k less old x i j z);
  }

  abbrev Grown : ℕ → List Compared → Type 0
  Grown k log = (more : List Compared) × (length more ≡ length log + count_below is_new k) × Logged (Upto k) n more

  step : (b : Bool) (k : ℕ) → k < f → is_new k ≡ b → (log : List Compared) → Grown k log → (more : List Compared) × (length more ≡ length log + (count_below is_new k + cond b 1 0)) × Logged (Upto (suc k)) n more
  step true k less new log h = (h.0 ++ new_one k ∷ [], omega (arith, length-append h.0 (new_one k ∷ []), h.1), push k less new h.0 h.2)
  step false k less old log h = (h.0, omega (arith, h.1), keep k less old h.0 h.2)

  grown : (k : ℕ) → k ≤ f → (log : List Compared) → Logged (Upto 0) n log → Grown k log
  grown zero le log h = (log, omega arith, h)
  grown (suc k) le log h = step (is_new k) k (omega (arith, le)) refl log (grown k (omega (arith, le)) log h)

capped : (c l k g : ℕ) → c ≡ min l g → min (c + k) g ≡ min (l + k) g
capped c l k g h = omega (arith, h)

pub tally_below : {w : World} (f : ℕ) (among : ℕ → Bool) {s t : Search} → NotesBelow f among s t → f < length w.fragments → Tally w s → Tally w t
tally_below {w} f among {s} {t} d short h =
    let n = length w.fragments in
    let start : Logged (Upto n f s t short d.kept 0) n h.log = record {
      distinct = h.distinct;
      within = h.within;
      recorded = All-weaker (λ r. pair_in s r.flag r.first r.second ≡ true) (λ r. Upto n f s t short d.kept 0 r.flag r.first r.second) (λ r z. inl z) h.log h.recorded;
      listed = λ x i j z. elim z [ inl old ↦ h.listed x i j old | inr new ↦ absurd (omega (arith, new.2)) ];
    } in
    let end = grown n f s t short d.kept f (omega arith) h.log start in
    record {
      log = end.0;
      distinct = end.2.distinct;
      within = end.2.within;
      counted = d.compared ∙ capped s.compared (length h.log) (count_below (is_new n f s t short d.kept) f) greatest h.counted ∙ ap (λ (l : ℕ). min l greatest) (sym end.1);
      recorded = All-weaker (λ r. Upto n f s t short d.kept f r.flag r.first r.second) (λ r. pair_in t r.flag r.first r.second ≡ true)
          (λ r z. elim z [
            | inl old ↦ d.kept r.flag r.first r.second old
            | inr new ↦ subst (λ (y : Bool). pair_in t y r.first r.second ≡ true) (sym new.0) (at_ends n f s t short d.kept t r.first r.second new.1 new.2 ∙ new.3)
          ]) end.0 end.2.recorded;
      listed = λ x i j z. end.2.listed x i j (elim (d.only x i j z) [
        | inl old ↦ inl old
        | inr new ↦ inr (new.0, new.1, new.2, sym (at_ends n f s t short d.kept t i j new.1 new.2) ∙ subst (λ (y : Bool). pair_in t y i j ≡ true) new.0 z)
      ]);
      opened = opened_same w s t d.searched d.repeated d.opened d.lists h.opened;
      linear = linear_same w s t d.searched d.repeated d.opened h.linear;
      looked = looked_same w s t d.searched d.repeated d.opened d.looked h.looked;
    }
