-- One name more.
use Rattle.std.proofs.Common.{◌≡◌, ℕ, ◌+◌, ◌<◌, List, Option, Some, None, Bool, true, false, cond, refl, sym, ap, subst, ◌∙◌, arith, ◌⊎◌, inl, inr}
use Rattle.std.specs.Str.{bytes_eq}
use Rattle.language_values.proofs.Members.{bytes_eq-same, bytes_eq-refl}
use Rattle.std.specs.Option.{is_some}
use Rattle.std.specs.Prelude.{if◌then◌else◌}
use Rattle.std.specs.BTreeMap.{btree_map_len}
use Rattle.merge_set_table.specs.NameMap.{NameMap, number_at, AreNumbersApart}
use Rattle.merge_set_table.proofs.Lists.{same_some}

module _ (f g : List ℕ → Option ℕ) (name : List ℕ) (next : ℕ) (absent : f name ≡ None) (updated : (q : List ℕ) → g q ≡ cond (bytes_eq name q) (Some next) (f q)) where
  pub named_new : g name ≡ Some next
  named_new = updated name ∙ ap (λ b. cond b (Some next) (f name)) (bytes_eq-refl name)

  pub named_split : (q : List ℕ) (k : ℕ) → g q ≡ Some k → ((name ≡ q) × (k ≡ next)) ⊎ (f q ≡ Some k)
  named_split q k h = by (bytes_eq name q) refl (sym (updated q) ∙ h)
    where
      by : (b : Bool) → bytes_eq name q ≡ b → cond b (Some next) (f q) ≡ Some k → ((name ≡ q) × (k ≡ next)) ⊎ (f q ≡ Some k)
      by true e h = inl (bytes_eq-same name q e, sym (same_some next k h))
      by false e h = inr h

  pub named_kept : (q : List ℕ) (k : ℕ) → f q ≡ Some k → g q ≡ Some k
  named_kept q k h = updated q ∙ by (bytes_eq name q) refl
    where
      clash : None ≡ Some k → ⊥
      clash e = cc

      by : (b : Bool) → bytes_eq name q ≡ b → cond b (Some next) (f q) ≡ Some k
      by true e = absurd (clash (sym absent ∙ ap f (bytes_eq-same name q e) ∙ h))
      by false e = h

  module _ (small : (q : List ℕ) (k : ℕ) → f q ≡ Some k → k < next) where
    pub named_small : (q : List ℕ) (k : ℕ) → g q ≡ Some k → k < next + 1
    named_small q k h = elim (named_split q k h) [ inl e ↦ (let i = e.1 in omega (arith, i)) | inr e ↦ (let l = small q k e in omega (arith, l)) ]

    pub named_apart : ((q r : List ℕ) (k : ℕ) → f q ≡ Some k → f r ≡ Some k → q ≡ r) → (q r : List ℕ) (k : ℕ) → g q ≡ Some k → g r ≡ Some k → q ≡ r
    named_apart apart q r k h i = elim (named_split q k h) [
      | inl e ↦ elim (named_split r k i) [ inl d ↦ sym e.0 ∙ d.0 | inr d ↦ (let l = small r k d in let s = e.1 in absurd (omega (arith, l, s))) ]
      | inr e ↦ elim (named_split r k i) [ inl d ↦ (let l = small q k e in let s = d.1 in absurd (omega (arith, l, s))) | inr d ↦ apart q r k e d ]
    ]

-- a map that had no such name has one entry more
pub one_more : (o p : Option ℕ) (m n : ℕ) → o ≡ p → p ≡ None → n ≡ m + (if is_some o then 0 else 1) → n ≡ m + 1
one_more o p m n e f h = h ∙ ap (λ q. m + (if is_some q then 0 else 1)) (e ∙ f)

pub apart_more : (old new : NameMap) (name : List ℕ) (next : ℕ) → number_at old name ≡ None
    → ((q : List ℕ) → number_at new q ≡ cond (bytes_eq name q) (Some next) (number_at old q)) → next ≡ btree_map_len old → btree_map_len new ≡ next + 1 → AreNumbersApart old → AreNumbersApart new
apart_more old new name next absent updated count longer a =
    let small : (q : List ℕ) (k : ℕ) → number_at old q ≡ Some k → k < next = λ q k h. subst (λ (l : ℕ). k < l) (sym count) (a.small q k h) in
    record {
      small = λ q k h. subst (λ (l : ℕ). k < l) (sym longer) (named_small (number_at old) (number_at new) name next absent updated small q k h);
      apart = named_apart (number_at old) (number_at new) name next absent updated small a.apart;
    }
