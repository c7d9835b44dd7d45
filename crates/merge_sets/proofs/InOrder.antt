-- Two of a list, the first before the second, and what a filter keeps of them.
use Rattle.std.proofs.Common.{◌≡◌, ◌==◌, ℕ, zero, suc, ◌+◌, ◌-◌, ◌<◌, ◌≤◌, List, [], ◌∷◌, length, take, drop, get_or, sym, subst, ap, ◌∙◌, arith, Bool, true, false, cond, Some, inl, inr, ◌⊎◌, slice_get, length-drop}
use Rattle.std.specs.List.{All, Contains, filter}
use Rattle.std.proofs.lemmas.List.{take_all, get_or-drop, get_or_default}
use Rattle.std.proofs.lemmas.List.Elements.{All-contains, All-filter, All-contains_itself}
use Rattle.std.proofs.lemmas.Option.{get_or_from_slice_get, slice_get_within, slice_get-get_or}
use Rattle.merge_sets.specs.declared.node.Entry.{Entry}
use Rattle.merge_sets.specs.Names.{named}
use Rattle.merge_sets.proofs.OneName.{kept}

abbrev pub Before : List Entry → Entry → Entry → Type 0
Before [] a b = ⊥
Before (x ∷ xs) a b = ((x ≡ a) × Contains xs b) ⊎ Before xs a b

some_same : (x a : Entry) → Some x ≡ Some a → x ≡ a
some_same x a h = cc

pub at_of : (xs : List Entry) (k : ℕ) (a : Entry) → slice_get xs k ≡ Some a → Contains xs a
at_of xs k a p = (k, slice_get_within xs k a p, get_or_from_slice_get xs k a a p)

before_from : (xs : List Entry) (k l : ℕ) (a b : Entry) → k < l → slice_get xs k ≡ Some a → slice_get xs l ≡ Some b → Before xs a b
before_from [] k l a b lt p q = absurd (omega (arith, slice_get_within [] k a p))
before_from (x ∷ xs) zero zero a b lt p q = absurd (omega (arith, lt))
before_from (x ∷ xs) zero (suc l) a b lt p q = inl (some_same x a p, at_of xs l b q)
before_from (x ∷ xs) (suc k) zero a b lt p q = absurd (omega (arith, lt))
before_from (x ∷ xs) (suc k) (suc l) a b lt p q = inr (before_from xs k l a b (omega (arith, lt)) p q)

abbrev pub Places : List Entry → Entry → Entry → Type 0
Places xs a b = (k : ℕ) × (l : ℕ) × (k < l) × (slice_get xs k ≡ Some a) × (slice_get xs l ≡ Some b)

before_to : (xs : List Entry) (a b : Entry) → Before xs a b → Places xs a b
before_to [] a b h = absurd h
before_to (x ∷ xs) a b (inl h) = (0, suc (h.1.0), omega arith, ap (λ y. Some y) h.0, slice_get-get_or xs (h.1.0) b h.1.1 ∙ ap (λ y. Some y) h.1.2)
before_to (x ∷ xs) a b (inr h) = let z = before_to xs a b h in (suc (z.0), suc (z.1), omega (arith, z.2), z.3, z.4)

kept_in : (test : Entry → Bool) (xs : List Entry) (a : Entry) → Contains xs a → test a ≡ true → Contains (filter test xs) a
kept_in test xs a c is = All-contains (λ x. test x ≡ true → Contains (filter test xs) x) xs a (kept test xs) c is

filter_in : (test : Entry → Bool) (xs : List Entry) (a : Entry) → Contains (filter test xs) a → Contains xs a
filter_in test xs a c = All-contains (λ x. Contains xs x) (filter test xs) a (All-filter test (λ x. Contains xs x) xs (All-contains_itself xs)) c

passes_before : (test : Entry → Bool) (xs : List Entry) (a b : Entry) → Before xs a b → test a ≡ true → test b ≡ true → Before (filter test xs) a b
passes_before test [] a b h p q = absurd h
passes_before test (x ∷ xs) a b (inl h) p q = subst (λ t. Before (cond t (x ∷ filter test xs) (filter test xs)) a b) (sym (ap test h.0 ∙ p)) (inl (h.0, kept_in test xs b h.1 q))
passes_before test (x ∷ xs) a b (inr h) p q = further (test x) x (filter test xs) a b (passes_before test xs a b h p q)
  where
    further : (t : Bool) (x : Entry) (ys : List Entry) (a b : Entry) → Before ys a b → Before (cond t (x ∷ ys) ys) a b
    further true x ys a b h = inr h
    further false x ys a b h = h

before_passes : (test : Entry → Bool) (xs : List Entry) (a b : Entry) → Before (filter test xs) a b → Before xs a b
before_passes test [] a b h = absurd h
before_passes test (x ∷ xs) a b h = nearer (test x) x xs (filter test xs) a b (λ c. filter_in test xs b c) (λ z. before_passes test xs a b z) h
  where
    nearer : (t : Bool) (x : Entry) (xs ys : List Entry) (a b : Entry) → (Contains ys b → Contains xs b) → (Before ys a b → Before xs a b) → Before (cond t (x ∷ ys) ys) a b → Before (x ∷ xs) a b
    nearer true x xs ys a b f g (inl h) = inl (h.0, f h.1)
    nearer true x xs ys a b f g (inr h) = inr (g h)
    nearer false x xs ys a b f g h = inr (g h)

eq_to : (m n : ℕ) → m ≡ n → (m == n) ≡ true
eq_to m n h = grind arith

-- two of one name stand in that order among those of the name
pub named_places : (n : ℕ) (xs : List Entry) (a b : Entry) → Places xs a b → a.response ≡ n → b.response ≡ n → Places (named n xs) a b
named_places n xs a b h p q =
    before_to (named n xs) a b (passes_before (λ x. x.response == n) xs a b (before_from xs h.0 h.1 a b h.2 h.3 h.4) (eq_to a.response n p) (eq_to b.response n q))

pub places_named : (n : ℕ) (xs : List Entry) (a b : Entry) → Places (named n xs) a b → Places xs a b
places_named n xs a b h = before_to xs a b (before_passes (λ x. x.response == n) xs a b (before_from (named n xs) h.0 h.1 a b h.2 h.3 h.4))

pub rest_is : {X : Type 0} (xs : List X) (n : ℕ) → take (length xs - n) (drop n xs) ≡ drop n xs
rest_is xs n = take_all (length xs - n) (drop n xs) (omega (arith, length-drop n xs))

-- what stands after the first so many
pub drop_places : {X : Type 0} (xs : List X) (n : ℕ) (x : X) → Contains (drop n xs) x → (l : ℕ) × (n ≤ l) × (slice_get xs l ≡ Some x)
drop_places xs n x c =
    let far : n + c.0 < length xs = omega (arith, length-drop n xs, c.1) in
    (n + c.0, omega arith, slice_get-get_or xs (n + c.0) x far ∙ ap (λ y. Some y) (sym (get_or-drop n xs c.0 x) ∙ c.2))

pub in_drop : {X : Type 0} (xs : List X) (n l : ℕ) (x : X) → n ≤ l → slice_get xs l ≡ Some x → Contains (drop n xs) x
in_drop xs n l x le p =
    let inside : l < length xs = slice_get_within xs l x p in
    let moved : n + (l - n) ≡ l = omega (arith, le) in
    (l - n, omega (arith, length-drop n xs, inside, le), get_or-drop n xs (l - n) x ∙ (ap (λ (i : ℕ). get_or xs i x) moved ∙ get_or_from_slice_get xs l x x p))

pub rest_places : {X : Type 0} (xs : List X) (k : ℕ) (x : X) → Contains (drop (k + 1) xs) x → (l : ℕ) × (k < l) × (slice_get xs l ≡ Some x)
rest_places xs k x c = let z = drop_places xs (k + 1) x c in (z.0, omega (arith, z.1), z.2)

pub in_rest : {X : Type 0} (xs : List X) (k l : ℕ) (x : X) → k < l → slice_get xs l ≡ Some x → Contains (drop (k + 1) xs) x
in_rest xs k l x lt p = in_drop xs (k + 1) l x (omega (arith, lt)) p

-- the numbers of a list, one by one
pub all_at : {X : Type 0} (P : X → Type 0) (xs : List X) (e : X) (n : ℕ) → length xs ≤ n → ((i : ℕ) → i < n → P (get_or xs i e)) → All P xs
all_at P xs e n le h = λ k d l. subst P (get_or_default xs k e d l) (h k (omega (arith, l, le)))

pub all_rest : {X : Type 0} (P : X → Type 0) (xs : List X) (n : ℕ) → All P xs → All P (drop n xs)
all_rest P xs n h = λ k d l. subst P (sym (get_or-drop n xs k d)) (h (n + k) d (omega (arith, l, length-drop n xs)))
