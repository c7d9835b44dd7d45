-- How reports join.
use Rattle.std.proofs.Common.{◌≡◌, ℕ, ◌+◌, ◌-◌, ◌<◌, ◌≤◌, List, [], ◌∷◌, ◌++◌, length, get_or, refl, sym, subst, ap, ◌∙◌, arith, Bool, true, false, inl, inr, ◌⊎◌, append_assoc, length-append, append-nil}
use Rattle.std.specs.List.{All, Contains}
use Rattle.std.proofs.lemmas.Bool.{cases_order}
use Rattle.std.proofs.lemmas.List.{get_or_default}
use Rattle.std.proofs.lemmas.List.Elements.{All-append, All-weaker, All-nil, All-cons, Contains-append_left, Contains-append_right, Contains-push}
use Rattle.merge_sets.specs.declared.node.Entry.{Entry}
use Rattle.merge_sets.specs.declared.finding.Finding.{Finding}
use Rattle.merge_sets.specs.declared.finding.Finding.TheVariants.{Direct, Nested}
use Rattle.merge_sets.specs.Judgement.{Lawful}
use Rattle.merge_sets.specs.World.{World, HasRoom, conflict_of, exclusive_of}
use Rattle.merge_sets.specs.Merging.{Below, below, Merges, merges}
use Rattle.merge_search.specs.Reports.{Root, NestedRoot, Trees, none, leaf, node, Adds, AddsAll, AtFields}
use Rattle.merge_sets.proofs.Laws.{conflict_flip, exclusive_flip, clash}
use Rattle.merge_sets.proofs.OneName.{no_entry}

trees_join : {w : World} {e : Bool} {rs ss : List Root} {xs ys : List Finding} → Trees w e rs xs → Trees w e ss ys → Trees w e (ss ++ rs) (xs ++ ys)
trees_join {w} {e} {rs} {xs = xs} d none = subst (λ zs. Trees w e rs zs) (sym (append-nil xs)) d
trees_join {w} {e} {rs} {xs = xs} d (leaf {rs = ss} {xs = ys} a b f h) =
    subst (λ zs. Trees w e (record { left = a; right = b } ∷ (ss ++ rs)) zs) (append_assoc xs ys (Direct a b e ∷ [])) (leaf a b (trees_join d f) h)
trees_join {w} {e} {rs} {xs = xs} d (node {rs = ss} {xs = ys} {ys = zs} a b f h g l p) =
    subst (λ us. Trees w e (record { left = a; right = b } ∷ (ss ++ rs)) us) (append_assoc xs ys (zs ++ Nested a b (length zs) ∷ [])) (node a b (trees_join d f) h g l p)

nil_of : (m : List Finding) → length m ≤ 0 → m ≡ []
nil_of [] l = refl
nil_of (x ∷ xs) l = absurd (omega (arith, l))

-- Q of a number below k.
abbrev pub UptoIndex : ℕ → (ℕ → Root → Type 0) → Root → Type 0
UptoIndex k Q r = (m : ℕ) × (m < k) × Q m r

-- Q of one of the first k.
abbrev pub Upto : {X : Type 0} → List X → ℕ → X → (X → Root → Type 0) → Root → Type 0
Upto xs k d Q r = (m : ℕ) × (m < k) × Q (get_or xs m d) r

module _ (w : World) (e : Bool) where
  pub adds_none : (P : Root → Type 0) (xs : List Finding) → Adds w e P xs xs
  adds_none P xs = record { roots = []; more = []; grown = sym (append-nil xs); shown = none; placed = All-nil P }

  -- where there is room for more, there was before
  pub room_of : (P : Root → Type 0) {xs ys : List Finding} → Adds w e P xs ys → HasRoom w ys → HasRoom w xs
  room_of P d (inl all) = inl all
  room_of P {xs} d (inr less) = inr (omega (arith, less, ap length d.grown ∙ length-append xs d.more))

  pub adds_map : (P Q : Root → Type 0) {xs ys : List Finding} → ((r : Root) → P r → Q r) → Adds w e P xs ys → Adds w e Q xs ys
  adds_map P Q f d = record { roots = d.roots; more = d.more; grown = d.grown; shown = d.shown; placed = All-weaker P Q f d.roots d.placed }

  pub adds_then : (P : Root → Type 0) {xs ys zs : List Finding} → Adds w e P xs ys → Adds w e P ys zs → Adds w e P xs zs
  adds_then P {xs} d f = record {
    roots = f.roots ++ d.roots;
    more = d.more ++ f.more;
    grown = f.grown ∙ (ap (λ us. us ++ f.more) d.grown ∙ append_assoc xs d.more f.more);
    shown = trees_join d.shown f.shown;
    placed = All-append P f.roots d.roots f.placed d.placed;
  }

  pub adds_from : (P : Root → Type 0) {xs ys zs : List Finding} → ys ≡ xs → Adds w e P ys zs → Adds w e P xs zs
  adds_from P {xs} {ys} {zs} eq d = subst (λ us. Adds w e P us zs) eq d

  pub adds_leaf : (a b : Entry) (xs ys : List Finding) → conflict_of w e a b ≡ true → ys ≡ xs ++ Direct a b e ∷ [] → Adds w e (AtFields a b) xs ys
  adds_leaf a b xs ys h eq = record {
    roots = record { left = a; right = b } ∷ [];
    more = Direct a b e ∷ [];
    grown = eq;
    shown = leaf a b none h;
    placed = All-cons (AtFields a b) (record { left = a; right = b }) [] (refl, refl) (All-nil (AtFields a b));
  }

  pub adds_node : (a b : Entry) (n : ℕ) (xs ys zs : List Finding) → conflict_of w e a b ≡ false
      → Adds w (exclusive_of w e a b) (NestedRoot w a b) xs ys → length xs < length ys → n ≡ length ys - length xs
      → zs ≡ ys ++ Nested a b n ∷ [] → Adds w e (AtFields a b) xs zs
  adds_node a b n xs ys zs h d l size eq =
      let long : length ys ≡ length xs + length d.more = ap length d.grown ∙ length-append xs d.more in
      let is : n ≡ length d.more = omega (arith, long, size) in
      record {
        roots = record { left = a; right = b } ∷ [];
        more = d.more ++ Nested a b (length d.more) ∷ [];
        grown = eq ∙ (ap (λ us. us ++ Nested a b n ∷ []) d.grown ∙ (append_assoc xs d.more (Nested a b n ∷ []) ∙ ap (λ (k : ℕ). xs ++ (d.more ++ Nested a b k ∷ [])) is));
        shown = node a b none h d.shown (omega (arith, long, l)) d.placed;
        placed = All-cons (AtFields a b) (record { left = a; right = b }) [] (refl, refl) (All-nil (AtFields a b));
      }

  pub adds_same : (x : Bool) (P Q : Root → Type 0) (xs ys : List Finding) → length ys ≤ length xs → Adds w x Q xs ys → Adds w e P xs ys
  adds_same x P Q xs ys l d =
      let long : length ys ≡ length xs + length d.more = ap length d.grown ∙ length-append xs d.more in
      let none : d.more ≡ [] = nil_of d.more (omega (arith, long, l)) in
      let same : ys ≡ xs = d.grown ∙ (ap (λ m. xs ++ m) none ∙ append-nil xs) in
      subst (λ zs. Adds w e P xs zs) (sym same) (adds_none P xs)

  -- a pair that fails of itself is its own root
  pub all_leaf : (a b : Entry) (xs ys : List Finding) → conflict_of w e a b ≡ true → ys ≡ xs ++ Direct a b e ∷ [] → AddsAll w e (AtFields a b) (AtFields a b) xs ys
  unfolding adds_leaf
  all_leaf a b xs ys h eq = record {
    adds = adds_leaf a b xs ys h eq;
    tells = λ room r at fails.
        subst (λ (x : Entry). Contains {X = Root} (record { left = a; right = b } ∷ []) (record { left = x; right = r.right })) (sym at.0)
        (subst (λ (y : Entry). Contains {X = Root} (record { left = a; right = b } ∷ []) (record { left = a; right = y })) (sym at.1) (Contains-push {X = Root} [] (record { left = a; right = b })));
  }

  -- a pair that doesn't needs none
  pub all_quiet : (a b : Entry) {xs ys : List Finding} → conflict_of w e a b ≡ false → Adds w e (AtFields a b) xs ys → AddsAll w e (AtFields a b) (AtFields a b) xs ys
  all_quiet a b n d = record {
    adds = d;
    tells = λ room r at fails. absurd (clash (conflict_of w e a b)
        (subst (λ (x : Entry). conflict_of w e x b ≡ true) at.0 (subst (λ (y : Entry). conflict_of w e r.left y ≡ true) at.1 fails)) n);
  }

  -- there is no room for more
  pub all_full : (P Q : Root → Type 0) (xs : List Finding) → (HasRoom w xs → ⊥) → AddsAll w e P Q xs xs
  all_full P Q xs full = record { adds = adds_none P xs; tells = λ room. absurd (full room) }

  pub all_start : {X : Type 0} (P : Root → Type 0) (Q : X → Root → Type 0) (items : List X) (d : X) (xs : List Finding) → AddsAll w e P (Upto items 0 d Q) xs xs
  all_start P Q items d xs = record { adds = adds_none P xs; tells = λ room r at fails. absurd (omega (arith, at.1)) }

  pub all_begin : (P : Root → Type 0) (Q : ℕ → Root → Type 0) (xs : List Finding) → AddsAll w e P (UptoIndex 0 Q) xs xs
  all_begin P Q xs = record { adds = adds_none P xs; tells = λ room r at fails. absurd (omega (arith, at.1)) }

  pub all_next : (P R : Root → Type 0) (Q : ℕ → Root → Type 0) (k : ℕ) {xs ys zs : List Finding}
      → ((r : Root) → R r → P r) → AddsAll w e P (UptoIndex k Q) xs ys → AddsAll w e R (Q k) ys zs → AddsAll w e P (UptoIndex (k + 1) Q) xs zs
  unfolding adds_then adds_map
  all_next P R Q k {xs} {ys} {zs} f had new = record {
    adds = adds_then P had.adds (adds_map R P f new.adds);
    tells = λ room r at fails. elim (cases_order at.0 k) [
      | inl eq ↦ Contains-append_left new.adds.roots had.adds.roots r (new.tells room r (subst (λ (m : ℕ). Q m r) eq at.2) fails)
      | inr o ↦ elim o [
        | inl less ↦ Contains-append_right new.adds.roots had.adds.roots r (had.tells (room_of R new.adds room) r (at.0, less, at.2) fails)
        | inr more ↦ absurd (omega (arith, at.1, more))
      ]
    ];
  }

  pub all_more : {X : Type 0} (P R : Root → Type 0) (Q : X → Root → Type 0) (items : List X) (k : ℕ) (d : X) {xs ys zs : List Finding}
      → ((r : Root) → R r → P r) → AddsAll w e P (Upto items k d Q) xs ys → AddsAll w e R (Q (get_or items k d)) ys zs → AddsAll w e P (Upto items (k + 1) d Q) xs zs
  all_more P R Q items k d f had new = all_next P R (λ m. Q (get_or items m d)) k f had new

  -- reports of other places come after
  pub all_plus : (P Q R : Root → Type 0) {xs ys zs : List Finding} → ((r : Root) → R r → P r) → AddsAll w e P Q xs ys → Adds w e R ys zs → AddsAll w e P Q xs zs
  unfolding adds_then adds_map
  all_plus P Q R f had new = record {
    adds = adds_then P had.adds (adds_map R P f new);
    tells = λ room r at fails. Contains-append_right new.roots had.adds.roots r (had.tells (room_of R new room) r at fails);
  }

  pub all_both : (P Q R : Root → Type 0) {xs ys zs : List Finding} → AddsAll w e P Q xs ys → AddsAll w e P R ys zs → AddsAll w e P (λ r. Q r ⊎ R r) xs zs
  unfolding adds_then
  all_both P Q R had new = record {
    adds = adds_then P had.adds new.adds;
    tells = λ room r at fails. elim at [
      | inl q ↦ Contains-append_right new.adds.roots had.adds.roots r (had.tells (room_of P new.adds room) r q fails)
      | inr z ↦ Contains-append_left new.adds.roots had.adds.roots r (new.tells room r z fails)
    ];
  }

  pub all_from : (P Q : Root → Type 0) {xs ys zs : List Finding} → ys ≡ xs → AddsAll w e P Q ys zs → AddsAll w e P Q xs zs
  all_from P Q {xs} {ys} {zs} eq d = subst (λ us. AddsAll w e P Q us zs) eq d

  -- the same places, told otherwise
  pub all_change : (P P' Q Q' : Root → Type 0) {xs ys : List Finding} → ((r : Root) → P r → P' r) → ((r : Root) → Q' r → Q r) → AddsAll w e P Q xs ys → AddsAll w e P' Q' xs ys
  unfolding adds_map
  all_change P P' Q Q' f g d = record { adds = adds_map P P' f d.adds; tells = λ room r at fails. d.tells room r (g r at) fails }

  pub all_told : (P Q R : Root → Type 0) {xs ys : List Finding} → ((r : Root) → R r → Q r) → AddsAll w e P Q xs ys → AddsAll w e P R xs ys
  all_told P Q R f d = record { adds = d.adds; tells = λ room r at fails. d.tells room r (f r at) fails }

  pub all_done : {X : Type 0} (P Q : Root → Type 0) (R : X → Root → Type 0) (items : List X) (k : ℕ) (d : X) {xs ys : List Finding} → length items ≤ k
      → ((r : Root) → Q r → (x : X) × Contains items x × R x r) → AddsAll w e P (Upto items k d R) xs ys → AddsAll w e P Q xs ys
  all_done P Q R items k d le f had = record {
    adds = had.adds;
    tells = λ room r at fails.
        let z = f r at in
        had.tells room r (z.1.0, omega (arith, z.1.1, le), subst (λ x. R x r) (sym (get_or_default items z.1.0 d z.0 z.1.1 ∙ z.1.2)) z.2) fails;
  }

  pub all_map : (P P' Q : Root → Type 0) {xs ys : List Finding} → ((r : Root) → P r → P' r) → AddsAll w e P Q xs ys → AddsAll w e P' Q xs ys
  unfolding adds_map
  all_map P P' Q f d = record { adds = adds_map P P' f d.adds; tells = d.tells }

-- a true reason refutes merging
pub flip_below : {w : World} {a b c d : Entry} → Below w a b c d → Below w b a d c
flip_below (below sa tb p q same) = below tb sa q p (sym same)

pub merges_none : {w : World} {e : Bool} {a b : Entry} → Merges w e a b → conflict_of w e a b ≡ false
merges_none (merges n next) = n

merges_next : {w : World} {e : Bool} {a b c d : Entry} → Merges w e a b → Below w a b c d → Merges w (exclusive_of w e a b) c d
merges_next {c = c} {d = d} (merges n next) f = next c d f

pub roots_of : {w : World} {e : Bool} {rs : List Root} {xs : List Finding} → Trees w e rs xs → 0 < length xs → 0 < length rs
roots_of none l = l
roots_of (leaf {rs = rs} a b f h) l = omega arith
roots_of (node {rs = rs} a b f h g k p) l = omega arith

pub no_root : Root
no_root = record { left = no_entry; right = no_entry }

module _ (w : World) (laws : Lawful w.judgement) where
  merges_flip : {e : Bool} {a b : Entry} → Merges w e a b → Merges w e b a
  merges_flip {e} {a} {b} (merges n next) = merges (conflict_flip w laws e b a n)
      (λ c d f. subst (λ x. Merges w x c d) (exclusive_flip w laws e b a) (merges_flip (next d c (flip_below f))))

  nested_root : {e : Bool} {a b : Entry} (r : Root) → Merges w e a b → NestedRoot w a b r → Merges w (exclusive_of w e a b) r.left r.right
  nested_root r m (inl f) = merges_next m f
  nested_root r m (inr f) = merges_flip (merges_next m f)

  pub refuted : {e : Bool} {rs : List Root} {xs : List Finding} → Trees w e rs xs → All (λ r. Merges w e r.left r.right → ⊥) rs
  refuted {e} none = All-nil (λ r. Merges w e r.left r.right → ⊥)
  refuted {e} (leaf {rs = rs} a b f h) =
      All-cons (λ r. Merges w e r.left r.right → ⊥) (record { left = a; right = b }) rs (λ m. clash (conflict_of w e a b) h (merges_none m)) (refuted f)
  refuted {e} (node {rs = rs} {ss = ss} a b f h g k p) =
      All-cons (λ r. Merges w e r.left r.right → ⊥) (record { left = a; right = b }) rs
      (λ m. let l = roots_of g k in (refuted g) 0 no_root l (nested_root (get_or ss 0 no_root) m (p 0 no_root l))) (refuted f)
