-- The trees of a search as reports.
use Rattle.std.proofs.Common.{◌≡◌, ◌<◌, ℕ, List, [], ◌∷◌, ◌++◌, Bool, Option, length, get_or, slice_get, refl, sym, ap, subst, ◌∙◌, inl, inr, ◌⊎◌, arith}
use Rattle.std.specs.List.{All, Contains}
use Rattle.std.proofs.lemmas.List.Elements.{All-head, All-tail, All-weaker, All-contains, Contains-append_cases, Contains-append_left, Contains-append_right, Contains-get_or}
use Rattle.language.specs.declared.tree.Definition.{Definition}
use Rattle.schema.specs.Catalog.{Catalog}
use Rattle.fragment_graph.proofs.Lists.{contains_none, contains_one, one_contains}
use Rattle.merge_field_pairs.specs.Entries.{PlainEntry}
use Rattle.merge_field_pairs.specs.DirectReason.{direct_of}
use Rattle.merge_sets.specs.declared.node.Entry.{Entry}
use Rattle.merge_sets.specs.declared.finding.Finding.{Finding}
use Rattle.merge_sets.specs.declared.finding.Finding.TheVariants.{Direct, Nested}
use Rattle.merge_sets.specs.World.{World, conflict_of}
use Rattle.merge_search.specs.Reports.{Root, NestedRoot, Trees, leaf, node}
use Rattle.merge_search.specs.Reports as found
use Rattle.merge_set_table.specs.Table.{Numbered}
use Rattle.merge_conflicts.specs.Reports.{Reports, none, direct, nested, roots, postfix, IsFieldAt, AreReportsOf, of_none, of_direct, of_nested}
use Rattle.merge_document.specs.Merging.{Below}
use Rattle.merge_document.specs.Conflicts.{Tells, this, after_direct, inside, after_nested, AreTrue, true_none, true_direct, true_nested}
use Rattle.merge_document.proofs.Fields.{own_field, one_field}
use Rattle.merge_document.proofs.Sets.{IsWorldOf}
use Rattle.merge_document.proofs.Transfer.{Of, conflict_at, exclusive_at, below_out, some_passes}

-- one after the other
abbrev pub then : {X : Type 0} → Reports X → Reports X → Reports X
then none r = r
then (direct a b e rest) r = direct a b e (then rest r)
then (nested a b inner rest) r = nested a b inner (then rest r)

pub then_postfix : (p q : Reports Entry) → postfix (then p q) ≡ postfix p ++ postfix q
then_postfix none q = refl
then_postfix (direct a b e rest) q = ap (λ (z : List Finding). Direct a b e ∷ z) (then_postfix rest q)
then_postfix (nested a b inner rest) q =
    ap (λ (z : List Finding). postfix inner ++ (Nested a b (length (postfix inner)) ∷ z)) (then_postfix rest q)
    ∙ sym (Rattle.std.proofs.lemmas.List.append_assoc (postfix inner) (Nested a b (length (postfix inner)) ∷ postfix rest) (postfix q))

pub then_roots : {X : Type 0} (p q : Reports X) → roots (then p q) ≡ roots p ++ roots q
then_roots none q = refl
then_roots (direct a b e rest) q = ap (λ z. (a, b) ∷ z) (then_roots rest q)
then_roots (nested a b inner rest) q = ap (λ z. (a, b) ∷ z) (then_roots rest q)

module _ {S C : Type 0} (fields : List (PlainEntry S C)) where
  pub then_of : {p q : Reports Entry} {r s : Reports (PlainEntry S C)} → AreReportsOf fields p r → AreReportsOf fields q s → AreReportsOf fields (then p q) (then r s)
  then_of of_none k = k
  then_of (of_direct e f g h) k = of_direct e f g (then_of h k)
  then_of (of_nested f g i h) k = of_nested f g i (then_of h k)

module _ {S C : Type 0} (E : S → S → Bool) (schema : Catalog S C) (document : List (Definition S)) where
  pub then_true : {e : Bool} {r s : Reports (PlainEntry S C)} → AreTrue E schema document e r → AreTrue E schema document e s → AreTrue E schema document e (then r s)
  then_true true_none k = k
  then_true (true_direct f h) k = true_direct f (then_true h k)
  then_true (true_nested p all some i h) k = true_nested p all some i (then_true h k)

module _ {S C : Type 0} (fields : List (PlainEntry S C)) where
  -- the roots, of the fields that have these numbers
  pub root_out : {p : Reports Entry} {r : Reports (PlainEntry S C)} → AreReportsOf fields p r → (t : PlainEntry S C × PlainEntry S C) → Contains (roots r) t
      → (a : Entry) × (b : Entry) × Contains (roots p) (a, b) × IsFieldAt fields a t.0 × IsFieldAt fields b t.1
  root_out of_none t c = absurd (contains_none t c)
  root_out (of_direct {a = a} {b = b} {x = x} {y = y} {rest = p} {others = r} e f g h) t c = elim (Contains-append_cases ((x, y) ∷ []) (roots r) t c) [
    | inl i ↦ (let same = contains_one (x, y) t i in
        (a, b, Contains-append_left ((a, b) ∷ []) (roots p) (a, b) (one_contains (a, b)), subst (λ z. IsFieldAt fields a z.0) same f, subst (λ z. IsFieldAt fields b z.1) same g))
    | inr i ↦ (let o = root_out h t i in (o.0, o.1, Contains-append_right ((a, b) ∷ []) (roots p) (o.0, o.1) o.2, o.3, o.4))
  ]
  root_out (of_nested {a = a} {b = b} {x = x} {y = y} {rest = p} {others = r} f g i h) t c = elim (Contains-append_cases ((x, y) ∷ []) (roots r) t c) [
    | inl j ↦ (let same = contains_one (x, y) t j in
        (a, b, Contains-append_left ((a, b) ∷ []) (roots p) (a, b) (one_contains (a, b)), subst (λ z. IsFieldAt fields a z.0) same f, subst (λ z. IsFieldAt fields b z.1) same g))
    | inr j ↦ (let o = root_out h t j in (o.0, o.1, Contains-append_right ((a, b) ∷ []) (roots p) (o.0, o.1) o.2, o.3, o.4))
  ]

  same_field : {a b : Entry} {x y : PlainEntry S C} → a ≡ b → IsFieldAt fields a x → IsFieldAt fields b y → x ≡ y
  same_field {a} {b} {x} {y} e f g = Rattle.fragment_graph.proofs.Lists.same_item x y (slice_get fields b.field) (ap (λ (z : Entry). slice_get fields z.field) (sym e) ∙ f) g

  pub root_in : {p : Reports Entry} {r : Reports (PlainEntry S C)} → AreReportsOf fields p r → (a b : Entry) (x y : PlainEntry S C) → IsFieldAt fields a x → IsFieldAt fields b y
      → Contains (roots p) (a, b) → Contains (roots r) (x, y)
  root_in of_none a b x y f g c = absurd (contains_none (a, b) c)
  root_in (of_direct {a = c} {b = d} {x = z} {y = u} {rest = p} {others = r} e k l h) a b x y f g i = elim (Contains-append_cases ((c, d) ∷ []) (roots p) (a, b) i) [
    | inl j ↦ (let same = contains_one (c, d) (a, b) j in
        subst (λ t. Contains ((z, u) ∷ roots r) t) (pair (same_field (ap (λ t. t.0) same) k f) (same_field (ap (λ t. t.1) same) l g)) (Contains-append_left ((z, u) ∷ []) (roots r) (z, u) (one_contains (z, u))))
    | inr j ↦ Contains-append_right ((z, u) ∷ []) (roots r) (x, y) (root_in h a b x y f g j)
  ]
    where
      pair : z ≡ x → u ≡ y → ◌≡◌ {A = PlainEntry S C × PlainEntry S C} (z, u) (x, y)
      pair e f = cc
  root_in (of_nested {a = c} {b = d} {x = z} {y = u} {rest = p} {others = r} k l n h) a b x y f g i = elim (Contains-append_cases ((c, d) ∷ []) (roots p) (a, b) i) [
    | inl j ↦ (let same = contains_one (c, d) (a, b) j in
        subst (λ t. Contains ((z, u) ∷ roots r) t) (pair (same_field (ap (λ t. t.0) same) k f) (same_field (ap (λ t. t.1) same) l g)) (Contains-append_left ((z, u) ∷ []) (roots r) (z, u) (one_contains (z, u))))
    | inr j ↦ Contains-append_right ((z, u) ∷ []) (roots r) (x, y) (root_in h a b x y f g j)
  ]
    where
      pair : z ≡ x → u ≡ y → ◌≡◌ {A = PlainEntry S C × PlainEntry S C} (z, u) (x, y)
      pair e f = cc

  -- what was found of two fields is told of them
  pub told : {p : Reports Entry} {r : Reports (PlainEntry S C)} → AreReportsOf fields p r → (a b : Entry) (e : Bool) (x y : PlainEntry S C) → IsFieldAt fields a x → IsFieldAt fields b y
      → Contains (postfix p) (Direct a b e) → Tells r e x y
  told of_none a b e x y f g c = absurd (contains_none (Direct a b e) c)
  told (of_direct {a = c} {b = d} {x = z} {y = u} {rest = p} {others = r} i k l h) a b e x y f g at = elim (Contains-append_cases (Direct c d i ∷ []) (postfix p) (Direct a b e) at) [
    | inl j ↦ (let same = contains_one (Direct c d i) (Direct a b e) j in
        here (same_field (left same) k f) (same_field (right same) l g) (flag same))
    | inr j ↦ after_direct (told h a b e x y f g j)
  ]
    where
      left : Direct c d i ≡ Direct a b e → c ≡ a
      left same = cc

      right : Direct c d i ≡ Direct a b e → d ≡ b
      right same = cc

      flag : Direct c d i ≡ Direct a b e → i ≡ e
      flag same = cc

      here : z ≡ x → u ≡ y → i ≡ e → Tells (direct z u i r) e x y
      here p q o = subst (λ (s : PlainEntry S C). Tells (direct z u i r) e s y) p (subst (λ (s : PlainEntry S C). Tells (direct z u i r) e z s) q (subst (λ (s : Bool). Tells (direct z u i r) s z u) o this))
  told (of_nested {a = c} {b = d} {x = z} {y = u} {below = q} {rest = p} {inner = s} {others = r} k l n h) a b e x y f g at = elim (Contains-append_cases (postfix q) (Nested c d (length (postfix q)) ∷ postfix p) (Direct a b e) at) [
    | inl j ↦ inside (told n a b e x y f g j)
    | inr j ↦ elim (Contains-append_cases (Nested c d (length (postfix q)) ∷ []) (postfix p) (Direct a b e) j) [
      | inl k' ↦ absurd (clash (contains_one (Nested c d (length (postfix q))) (Direct a b e) k'))
      | inr k' ↦ after_nested (told h a b e x y f g k')
    ]
  ]
    where
      clash : {n : ℕ} → Nested c d n ≡ Direct a b e → ⊥
      clash same = cc

  -- where there are reports, something was found
  pub found_some : {p : Reports Entry} {r : Reports (PlainEntry S C)} → AreReportsOf fields p r → ((p ≡ none) × (r ≡ none)) ⊎ (0 < length (postfix p))
  found_some of_none = inl (refl, refl)
  found_some (of_direct e f g h) = inr (omega arith)
  found_some (of_nested {a = a} {b = b} {below = q} {rest = p} f g n h) =
      let l = Rattle.std.proofs.lemmas.List.length-append (postfix q) (Nested a b (length (postfix q)) ∷ postfix p) in inr (omega (arith, l))

module _ {S C : Type 0} (E : S → S → Bool) (schema : Catalog S C) (document : List (Definition S)) (numbers : List ℕ → Option ℕ) (m : Numbered S C) (w : World) (is : IsWorldOf E schema document numbers m w) where
  abbrev OfField : PlainEntry S C → Entry → Type 0
  OfField x a = Of E schema document numbers m w is x a

  -- trees with these roots, as reports
  pub record Tree (e : Bool) (rs : List Root) (xs : List Finding) : Type 0 where
    pub numbered : Reports Entry
    pub reports : Reports (PlainEntry S C)
    pub writes : postfix numbered ≡ xs
    pub are : AreReportsOf m.fields numbered reports
    pub true_ones : AreTrue E schema document e reports
    pub from : (a b : Entry) → Contains (roots numbered) (a, b) → Contains rs (record { left = a; right = b })
    pub to : (r : Root) → Contains rs r → Contains (roots numbered) (r.left, r.right)

  -- both fields of a root are the document's
  abbrev pub AreBoth : Root → Type 0
  AreBoth r = ((x : PlainEntry S C) × OfField x r.left) × ((y : PlainEntry S C) × OfField y r.right)

  both_below : {x y : PlainEntry S C} {a b : Entry} → OfField x a → OfField y b → (r : Root) → NestedRoot w a b r → AreBoth r
  both_below f g r (inl h) = let o = below_out E schema document numbers m w is f g h in ((o.0, o.3), (o.1, o.4))
  both_below f g r (inr h) = let o = below_out E schema document numbers m w is f g h in ((o.1, o.4), (o.0, o.3))

  abbrev BelowEither : PlainEntry S C → PlainEntry S C → PlainEntry S C × PlainEntry S C → Type 0
  BelowEither x y t = Below E schema document x y t.0 t.1 ⊎ Below E schema document x y t.1 t.0

  below_either : {x y : PlainEntry S C} {a b : Entry} → OfField x a → OfField y b → (r : Root) (t : PlainEntry S C × PlainEntry S C)
      → NestedRoot w a b r → IsFieldAt m.fields r.left t.0 → IsFieldAt m.fields r.right t.1 → BelowEither x y t
  below_either {x} {y} f g r t (inl h) i j =
      let o = below_out E schema document numbers m w is f g h in
      inl (subst (λ z. Below E schema document x y t.0 z) (one_field schema numbers m j o.4) (subst (λ z. Below E schema document x y z o.1) (one_field schema numbers m i o.3) o.2))
  below_either {x} {y} f g r t (inr h) i j =
      let o = below_out E schema document numbers m w is f g h in
      inr (subst (λ z. Below E schema document x y t.1 z) (one_field schema numbers m i o.4) (subst (λ z. Below E schema document x y z o.1) (one_field schema numbers m j o.3) o.2))

  -- the roots of one more
  more_from : (p q : Reports Entry) (a b : Entry) (rs : List Root) → roots q ≡ (a, b) ∷ [] → ((c d : Entry) → Contains (roots p) (c, d) → Contains rs (record { left = c; right = d }))
      → (c d : Entry) → Contains (roots (then p q)) (c, d) → Contains (record { left = a; right = b } ∷ rs) (record { left = c; right = d })
  more_from p q a b rs one h c d i = elim (Contains-append_cases (roots p) (roots q) (c, d) (subst (λ z. Contains z (c, d)) (then_roots p q) i)) [
    | inl j ↦ Contains-append_right (record { left = a; right = b } ∷ []) rs (record { left = c; right = d }) (h c d j)
    | inr j ↦ (let same = contains_one (a, b) (c, d) (subst (λ z. Contains z (c, d)) one j) in
        subst (λ (r : Entry × Entry). Contains (record { left = a; right = b } ∷ rs) (record { left = r.0; right = r.1 })) same
        (Contains-append_left (record { left = a; right = b } ∷ []) rs (record { left = a; right = b }) (one_contains (record { left = a; right = b }))))
  ]

  more_to : (p q : Reports Entry) (a b : Entry) (rs : List Root) → roots q ≡ (a, b) ∷ [] → ((r : Root) → Contains rs r → Contains (roots p) (r.left, r.right))
      → (r : Root) → Contains (record { left = a; right = b } ∷ rs) r → Contains (roots (then p q)) (r.left, r.right)
  more_to p q a b rs one h r i =
      subst (λ z. Contains z (r.left, r.right)) (sym (then_roots p q)) (elim (Contains-append_cases (record { left = a; right = b } ∷ []) rs r i) [
        | inl j ↦ Contains-append_right (roots p) (roots q) (r.left, r.right) (subst (λ z. Contains z (r.left, r.right)) (sym one)
            (subst (λ (z : Root). Contains {X = Entry × Entry} ((a, b) ∷ []) (z.left, z.right)) (contains_one (record { left = a; right = b }) r j) (one_contains (a, b))))
        | inr j ↦ Contains-append_left (roots p) (roots q) (r.left, r.right) (h r j)
      ])

  pub tree : {e : Bool} {rs : List Root} {xs : List Finding} → Trees w e rs xs → All AreBoth rs → Tree e rs xs
  tree found.none all = record {
    numbered = none;
    reports = none;
    writes = refl;
    are = of_none;
    true_ones = true_none;
    from = λ a b c. absurd (contains_none (a, b) c);
    to = λ r c. absurd (contains_none r c);
  }
  tree {e} (leaf {rs = rs} {xs = xs} a b h fails) all =
      let both = All-head AreBoth (record { left = a; right = b }) rs all in
      let x = (both.0).0 in let y = (both.1).0 in
      let t = tree h (All-tail AreBoth (record { left = a; right = b }) rs all) in
      record {
        numbered = then t.numbered (direct a b e none);
        reports = then t.reports (direct x y e none);
        writes = then_postfix t.numbered (direct a b e none) ∙ ap (λ (z : List Finding). z ++ Direct a b e ∷ []) t.writes;
        are = then_of m.fields t.are (of_direct e (own_field schema numbers m (both.0).1).field (own_field schema numbers m (both.1).1).field of_none);
        true_ones = then_true E schema document t.true_ones (true_direct (sym (conflict_at E schema document numbers m w is (both.0).1 (both.1).1 e) ∙ fails) true_none);
        from = more_from t.numbered (direct a b e none) a b rs refl t.from;
        to = more_to t.numbered (direct a b e none) a b rs refl t.to;
      }
  tree {e} (node {rs = rs} {ss = ss} {xs = xs} {ys = ys} a b h passes k some all_below) all =
      let both = All-head AreBoth (record { left = a; right = b }) rs all in
      let x = (both.0).0 in let y = (both.1).0 in let f = (both.0).1 in let g = (both.1).1 in
      let t = tree h (All-tail AreBoth (record { left = a; right = b }) rs all) in
      let u = tree k (All-weaker (NestedRoot w a b) AreBoth (both_below f g) ss all_below) in
      record {
        numbered = then t.numbered (nested a b u.numbered none);
        reports = then t.reports (nested x y u.reports none);
        writes = then_postfix t.numbered (nested a b u.numbered none) ∙ ap (λ (z : List Finding). z ++ (postfix u.numbered ++ Nested a b (length (postfix u.numbered)) ∷ [])) t.writes
            ∙ ap (λ (z : List Finding). xs ++ (z ++ Nested a b (length z) ∷ [])) u.writes;
        are = then_of m.fields t.are (of_nested (own_field schema numbers m f).field (own_field schema numbers m g).field u.are of_none);
        true_ones = then_true E schema document t.true_ones
            (true_nested (some_passes (direct_of E schema e x y) (conflict_of w e a b) (conflict_at E schema document numbers m w is f g e) passes)
            (λ i d l. let q = root_out m.fields u.are (get_or (roots u.reports) i d) (Contains-get_or (roots u.reports) i d l) in
            below_either f g (record { left = q.0; right = q.1 }) (get_or (roots u.reports) i d) (All-contains (NestedRoot w a b) ss (record { left = q.0; right = q.1 }) all_below (u.from q.0 q.1 q.2)) q.3 q.4)
            (not_none u.numbered u.reports ys u.are u.writes some)
            (subst (λ (i : Bool). AreTrue E schema document i u.reports) (exclusive_at E schema document numbers m w is f g e) u.true_ones) true_none);
        from = more_from t.numbered (nested a b u.numbered none) a b rs refl t.from;
        to = more_to t.numbered (nested a b u.numbered none) a b rs refl t.to;
      }
    where
      empty : (p : Reports Entry) (r : Reports (PlainEntry S C)) → r ≡ none → AreReportsOf m.fields p r → length (postfix p) ≡ 0
      empty p r e of_none = refl
      empty p r none_is (of_direct e f g h) = cc
      empty p r none_is (of_nested f g i h) = cc

      not_none : (p : Reports Entry) (r : Reports (PlainEntry S C)) (ys : List Finding) → AreReportsOf m.fields p r → postfix p ≡ ys → 0 < length ys → r ≡ none → ⊥
      not_none p r ys are writes some none_is = let z = empty p r none_is are in let l = ap length writes in omega (arith, z, l, some)
