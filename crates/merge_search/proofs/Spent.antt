-- What is spent on comparing fields.
use Rattle.std.proofs.Common.{◌≡◌, ◌+◌, ◌*◌, ◌<◌, ◌≤◌, ◌∙◌, ℕ, Bool, true, false, List, Some, arith, length, refl, sym, subst, ap}
use Rattle.std.specs.Option.{option_map_or}
use Rattle.std.specs.Prelude.{drop, get_or}
use Rattle.std.proofs.lemmas.List.Sums.{sum_by-drop_more}
use Rattle.std.proofs.lemmas.Nat.{mul-le}
use Rattle.std.proofs.lemmas.Option.{slice_get-get_or}
use Rattle.merge_sets.specs.declared.node.Entry.{Entry}
use Rattle.merge_sets.specs.declared.finding.Finding.{Finding}
use Rattle.merge_search.specs.declared.state.Search.{Search}
use Rattle.merge_sets.specs.Graph.{Falling}
use Rattle.merge_search.specs.State.{CountsFields, Reports}
use Rattle.merge_search.specs.Spending.{Compares, ComparesUpto, LooksFlatly, list_cost, open_cost, pair_cost, settle_cost}
use Rattle.merge_search.specs.Weight.{below_weight, field_weight, weight}
use Rattle.merge_sets.specs.World.{World, own_of}
use Rattle.merge_search.proofs.Weights.{length_weight, own_weight}
use Rattle.merge_sets.proofs.OneName.{no_entry}

module _ (w : World) (falling : Falling w.sets w.fragments) where
  pub own_length : (s : ℕ) → length (own_of w s) ≤ weight w s
  own_length s = subst (λ (n : ℕ). length (own_of w s) ≤ n) (sym (own_weight w falling s)) (length_weight w (own_of w s))

  pub below_is : (a : Entry) (i : ℕ) → a.below ≡ Some i → below_weight w a ≡ weight w i
  below_is a i is = ap (λ o. option_map_or (weight w) o 0) is

  pub below_product : (a b : Entry) (i j : ℕ) → a.below ≡ Some i → b.below ≡ Some j → below_weight w a * below_weight w b ≡ weight w i * weight w j
  below_product a b i j sa sb = ap (λ (n : ℕ). n * below_weight w b) (below_is a i sa) ∙ ap (λ (n : ℕ). weight w i * n) (below_is b j sb)

  -- two fields that are settled by looking at few fields below them
  pub settle_pays : (a b : Entry) (i j : ℕ) → a.below ≡ Some i → b.below ≡ Some j → (is : Bool) (s u t : Search)
      → CountsFields 1 s u → LooksFlatly (length (own_of w i)) (length (own_of w j)) u t → Compares (settle_cost w a b is) s t
  settle_pays a b i j sa sb true s u t one flat = record {
    judged = omega (
      arith,
      flat.all.judged,
      one.judged,
      mul-le (length (own_of w i)) (length (own_of w j)) (below_weight w a) (below_weight w b)
          (subst (λ (n : ℕ). length (own_of w i) ≤ n) (sym (below_is a i sa)) (own_length i)) (subst (λ (n : ℕ). length (own_of w j) ≤ n) (sym (below_is b j sb)) (own_length j)),
    );
    pairs = flat.all.pairs ∙ one.keeps.pairs;
    searched = flat.all.searched ∙ one.keeps.searched;
    repeated = flat.all.repeated ∙ one.repeated;
  }
  settle_pays a b i j sa sb false s u t one flat = record {
    judged = omega (arith, flat.few.judged, one.judged, subst (λ (n : ℕ). length (own_of w j) ≤ n) (sym (below_is b j sb)) (own_length j));
    pairs = flat.all.pairs ∙ one.keeps.pairs;
    searched = flat.all.searched ∙ one.keeps.searched;
    repeated = flat.all.repeated ∙ one.repeated;
  }

-- two fields of which nothing more was looked at
pub settle_once : (w : World) (a b : Entry) (s t : Search) → CountsFields 1 s t → Compares (settle_cost w a b true) s t
settle_once w a b s t one = record {
  judged = omega (arith, one.judged, mul-le 1 1 (field_weight w a) (field_weight w b) (omega arith) (omega arith));
  pairs = one.keeps.pairs;
  searched = one.keeps.searched;
  repeated = one.repeated;
}

-- nor after they were reported
pub settle_told : {y : Finding} (w : World) (a b : Entry) (s t u : Search) → CountsFields 1 s t → Reports y t u
    → Compares (settle_cost w a b true) s u
settle_told w a b s t u one told = record {
  judged = omega (arith, told.judged, (settle_once w a b s t one).judged);
  pairs = told.pairs ∙ one.keeps.pairs;
  searched = told.searched ∙ one.keeps.searched;
  repeated = told.repeated ∙ one.repeated;
}

module _ (w : World) (a : Entry) (fields : List Entry) where
  -- a field and those from a place on: the one there, and the rest
  pub row_next : (k : ℕ) → k < length fields → list_cost w a (drop k fields) ≡ pair_cost w a (get_or fields k no_entry) + list_cost w a (drop (k + 1) fields)
  row_next k less = sum_by-drop_more (pair_cost w a) fields k no_entry less

  -- nothing was compared yet
  pub upto_none : (n : ℕ) (s : Search) → ComparesUpto w a fields n n 0 s s
  upto_none n s = record { judged = omega arith; pairs = refl; searched = refl; repeated = refl }

  -- one more was settled
  pub upto_next : (n k : ℕ) (s t u : Search) → k < length fields → ComparesUpto w a fields n k 0 s t
      → Compares (settle_cost w a (get_or fields k no_entry) true) t u → ComparesUpto w a fields n (k + 1) 0 s u
  upto_next n k s t u less before one = record {
    judged = omega (arith, before.judged, one.judged, row_next k less);
    pairs = one.pairs ∙ before.pairs;
    searched = one.searched ∙ before.searched;
    repeated = one.repeated ∙ before.repeated;
  }

  -- or it wasn't
  pub upto_open : (n k : ℕ) (s t u : Search) → k < length fields → ComparesUpto w a fields n k 0 s t
      → Compares (settle_cost w a (get_or fields k no_entry) false) t u → ComparesUpto w a fields n k (open_cost w fields k) s u
  upto_open n k s t u less before one = record {
    judged = omega (arith, before.judged, one.judged, ap (λ o. option_map_or (λ b. 1 + 4 * below_weight w b) o 0) (slice_get-get_or fields k no_entry less));
    pairs = one.pairs ∙ before.pairs;
    searched = one.searched ∙ before.searched;
    repeated = one.repeated ∙ before.repeated;
  }

  -- none is left
  pub upto_end : (n k : ℕ) (s t : Search) → ComparesUpto w a fields n k 0 s t → ComparesUpto w a fields n k (open_cost w fields k) s t
  upto_end n k s t all = record { judged = omega (arith, all.judged); pairs = all.pairs; searched = all.searched; repeated = all.repeated }
