-- A run of two visitors comes apart.
use Rattle.std.proofs.Common.{◌≡◌, List, [], ◌∷◌, ◌++◌, refl, ap, sym, ◌∙◌, subst, append_assoc, IsPermutation}
use Rattle.std.proofs.lemmas.List.Sorted.{IsPermutation-refl, IsPermutation-trans, IsPermutation-append_left}
use Rattle.std.proofs.lemmas.List.Sorted.{IsPermutation-append_right, IsPermutation-append_comm}
use Rattle.walk.specs.Step.{StepOf}
use Rattle.walk.specs.Pair.{PairSplits}

-- two lists, each in two parts, by parts
pub IsPermutation-by_parts : {X : Type 0} (f g fs gs rest : List X) → IsPermutation (fs ++ gs) rest
    → IsPermutation ((f ++ fs) ++ (g ++ gs)) ((f ++ g) ++ rest)
IsPermutation-by_parts {X} f g fs gs rest p =
    let q : IsPermutation ((fs ++ g) ++ gs) ((g ++ fs) ++ gs) =
    IsPermutation-append_left gs (fs ++ g) (g ++ fs) (IsPermutation-append_comm fs g) in
    let q' : IsPermutation (f ++ ((fs ++ g) ++ gs)) (f ++ ((g ++ fs) ++ gs)) = IsPermutation-append_right f _ _ q in
    let r : IsPermutation (f ++ (g ++ (fs ++ gs))) (f ++ (g ++ rest)) =
    IsPermutation-append_right f _ _ (IsPermutation-append_right g _ _ p) in
    let left : (f ++ fs) ++ (g ++ gs) ≡ f ++ ((fs ++ g) ++ gs) =
    append_assoc f fs (g ++ gs) ∙ ap (λ z. f ++ z) (sym (append_assoc fs g gs)) in
    let mid : f ++ ((g ++ fs) ++ gs) ≡ f ++ (g ++ (fs ++ gs)) = ap (λ z. f ++ z) (append_assoc g fs gs) in
    let right : f ++ (g ++ rest) ≡ (f ++ g) ++ rest = sym (append_assoc f g rest) in
    subst (λ z. IsPermutation z ((f ++ g) ++ rest)) (sym left)
    (subst (λ z. IsPermutation (f ++ ((fs ++ g) ++ gs)) z) right
    (IsPermutation-trans _ _ _ q' (subst (λ z. IsPermutation z (f ++ (g ++ rest))) (sym mid) r)))

-- each run of a pair comes apart
pub pair_splits : {S C V W : Type 0} (newer : StepOf S C V) (other : StepOf S C W) → PairSplits newer other
pair_splits newer other scope [] a b es r =
    record {
      by_newer = [];
      by_other = [];
      newer_runs = (ap (λ z. z.0) r.0, refl);
      other_runs = (ap (λ z. z.1) r.0, refl);
      together =
          subst (λ z. IsPermutation [] z) (sym r.1) (IsPermutation-refl []);
    }
pair_splits newer other scope (m ∷ ms) a b es (mid, first, rest, (f, g, s, t, e₁), r, e) =
    let q = pair_splits newer other scope ms mid b rest r in
    record {
      by_newer = f ++ q.by_newer;
      by_other = g ++ q.by_other;
      newer_runs = (mid.0, f, q.by_newer, s, q.newer_runs, refl);
      other_runs = (mid.1, g, q.by_other, t, q.other_runs, refl);
      together = subst (λ z. IsPermutation ((f ++ q.by_newer) ++ (g ++ q.by_other)) z)
          (sym (e ∙ ap (λ z. z ++ rest) e₁)) (IsPermutation-by_parts f g q.by_newer q.by_other rest q.together);
    }
