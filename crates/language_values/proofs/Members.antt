-- Members of lists, and lists of keys of which no two are the same.
use Rattle.std.proofs.Common.{◌≡◌, ℕ, ◌≤◌, List, [], ◌∷◌, map, length, Bool, true, false, not, ◌⊎◌, inl, inr, refl, sym, ap, ◌∙◌, subst, arith}
use Rattle.std.specs.List.{list_any, list_all, IsDistinct, AllByRecursion}
use Rattle.std.specs.Str.{bytes_eq}
use Rattle.std.specs.Cmp.Lexicographic.{nat_list_eq_equiv}
use Rattle.std.proofs.lemmas.Bool.{and_parts, and_from, or_cases, or_left, or_right, or_parts, not-true, not_from_false, cases_Bool, both_ways}
use Rattle.std.proofs.lemmas.Slice.Eq.{bytes_eq-Decides}
use Rattle.std.proofs.lemmas.Map.Made.{length-le_from_is_member}
use Rattle.language_values.specs.Each.{Each}
use Rattle.language_values.specs.ValuesEqual.{are_distinct}

-- x is in the list
abbrev pub In : {A : Type 0} → A → List A → Type 0
In x [] = ⊥
In x (y ∷ ys) = (y ≡ x) ⊎ In x ys

pub Each-In : {A : Type 0} (P : A → Type 0) (xs : List A) (x : A) → Each P xs → In x xs → P x
Each-In P [] x each i = elim i [ ]
Each-In P (y ∷ ys) x each (inl e) = subst P e each.0
Each-In P (y ∷ ys) x each (inr i) = Each-In P ys x each.1 i

pub list_all-In : {A : Type 0} (p : A → Bool) (xs : List A) (x : A) → list_all p xs ≡ true → In x xs → p x ≡ true
list_all-In p [] x h i = elim i [ ]
list_all-In p (y ∷ ys) x h (inl e) = sym (ap p e) ∙ (and_parts (p y) (list_all p ys) h).0
list_all-In p (y ∷ ys) x h (inr i) = list_all-In p ys x (and_parts (p y) (list_all p ys) h).1 i

pub list_all-from_In : {A : Type 0} (p : A → Bool) (xs : List A) → ((x : A) → In x xs → p x ≡ true) → list_all p xs ≡ true
list_all-from_In p [] h = refl
list_all-from_In p (y ∷ ys) h = and_from (p y) (list_all p ys) (h y (inl refl)) (list_all-from_In p ys (λ x i. h x (inr i)))

pub list_any-In : {A : Type 0} (p : A → Bool) (xs : List A) (x : A) → In x xs → p x ≡ true → list_any p xs ≡ true
list_any-In p [] x i h = elim i [ ]
list_any-In p (y ∷ ys) x (inl e) h = or_left (p y) (list_any p ys) (ap p e ∙ h)
list_any-In p (y ∷ ys) x (inr i) h = or_right (p y) (list_any p ys) (list_any-In p ys x i h)

pub In-from_list_any : {A : Type 0} (p : A → Bool) (xs : List A) → list_any p xs ≡ true → (x : A) × In x xs × (p x ≡ true)
In-from_list_any p [] h = cc
In-from_list_any {A} p (y ∷ ys) h = by (In-from_list_any p ys) (or_cases (p y) (list_any p ys) h)
  where
    by : (list_any p ys ≡ true → (x : A) × In x ys × (p x ≡ true)) → (p y ≡ true) ⊎ (list_any p ys ≡ true) → (x : A) × In x (y ∷ ys) × (p x ≡ true)
    by rest (inl here) = (y, inl refl, here)
    by rest (inr there) = let more = rest there in (more.0, inr more.1, more.2)

pub In-map : {A B : Type 0} (f : A → B) (xs : List A) (x : A) → In x xs → In (f x) (map f xs)
In-map f [] x i = elim i [ ]
In-map f (y ∷ ys) x (inl e) = inl (ap f e)
In-map f (y ∷ ys) x (inr i) = inr (In-map f ys x i)

pub bytes_eq-same : (xs ys : List ℕ) → bytes_eq xs ys ≡ true → xs ≡ ys
bytes_eq-same xs ys = (bytes_eq-Decides xs ys).0

pub bytes_eq-refl : (xs : List ℕ) → bytes_eq xs xs ≡ true
bytes_eq-refl = nat_list_eq_equiv.refl

-- two members of a list of distinct keys that have one key are one member
pub same_from_key : {A : Type 0} (key : A → List ℕ) (xs : List A) (a b : A) → are_distinct (map key xs) ≡ true → In a xs → In b xs → key a ≡ key b → a ≡ b
same_from_key key [] a b h i j same = elim i [ ]
same_from_key key (x ∷ xs) a b h (inl p) (inl q) same = sym p ∙ q
same_from_key key (x ∷ xs) a b h (inr i) (inr j) same = same_from_key key xs a b (and_parts (not (list_any (bytes_eq (key x)) (map key xs))) (are_distinct (map key xs)) h).1 i j same
same_from_key key (x ∷ xs) a b h (inl p) (inr j) same =
    absurd (both_ways (list_any (bytes_eq (key x)) (map key xs)) (not-true _ (and_parts (not (list_any (bytes_eq (key x)) (map key xs))) (are_distinct (map key xs)) h).0)
    (list_any-In (bytes_eq (key x)) (map key xs) (key b) (In-map key xs b j) ((bytes_eq-Decides (key x) (key b)).1 (ap key p ∙ same))))
same_from_key key (x ∷ xs) a b h (inr i) (inl q) same =
    absurd (both_ways (list_any (bytes_eq (key x)) (map key xs)) (not-true _ (and_parts (not (list_any (bytes_eq (key x)) (map key xs))) (are_distinct (map key xs)) h).0)
    (list_any-In (bytes_eq (key x)) (map key xs) (key a) (In-map key xs a i) ((bytes_eq-Decides (key x) (key a)).1 (ap key q ∙ sym same))))

none_equal : (k : List ℕ) (ks : List (List ℕ)) → list_any (bytes_eq k) ks ≡ false → AllByRecursion (λ y. bytes_eq k y ≡ false) ks
none_equal k [] h = tt
none_equal k (x ∷ xs) h = let p = or_parts (bytes_eq k x) (list_any (bytes_eq k) xs) h in (p.0, none_equal k xs p.1)

IsDistinct-from_test : (ks : List (List ℕ)) → are_distinct ks ≡ true → IsDistinct bytes_eq ks
unfolding IsDistinct
IsDistinct-from_test [] h = tt
IsDistinct-from_test (k ∷ ks) h =
    let p = and_parts (not (list_any (bytes_eq k) ks)) (are_distinct ks) h in
    (none_equal k ks (not-true _ p.0), IsDistinct-from_test ks p.1)

-- if distinct keys are all in a list that is no longer than theirs, the list has no others
pub all_listed : (ks ls : List (List ℕ)) (q : List ℕ) → are_distinct ks ≡ true → length ls ≤ length ks → ((k : List ℕ) → list_any (bytes_eq k) ks ≡ true → list_any (bytes_eq k) ls ≡ true) → list_any (bytes_eq q) ls ≡ true → list_any (bytes_eq q) ks ≡ true
all_listed ks ls q distinct fits listed there = by (cases_Bool (list_any (bytes_eq q) ks))
  where
    more_listed : list_any (bytes_eq q) ks ≡ false → (k : List ℕ) → list_any (bytes_eq k) (q ∷ ks) ≡ true → list_any (bytes_eq k) ls ≡ true
    more_listed absent k h = from (or_cases (bytes_eq k q) (list_any (bytes_eq k) ks) h)
      where
        from : (bytes_eq k q ≡ true) ⊎ (list_any (bytes_eq k) ks ≡ true) → list_any (bytes_eq k) ls ≡ true
        from (inl same) = ap (λ w. list_any (bytes_eq w) ls) (bytes_eq-same k q same) ∙ there
        from (inr i) = listed k i

    by : (list_any (bytes_eq q) ks ≡ true) ⊎ (list_any (bytes_eq q) ks ≡ false) → list_any (bytes_eq q) ks ≡ true
    by (inl present) = present
    by (inr absent) =
        let too_long : length (q ∷ ks) ≤ length ls = length-le_from_is_member nat_list_eq_equiv (q ∷ ks) ls (IsDistinct-from_test (q ∷ ks) (and_from _ _ (not_from_false _ absent) distinct)) (more_listed absent) in
        absurd (omega arith)

-- a key of the list is the key of a member
pub In-from_key : {A : Type 0} (key : A → List ℕ) (k : List ℕ) (xs : List A) → list_any (bytes_eq k) (map key xs) ≡ true → (x : A) × In x xs × (k ≡ key x)
In-from_key key k [] h = cc
In-from_key {A} key k (y ∷ ys) h = by (In-from_key key k ys) (or_cases (bytes_eq k (key y)) (list_any (bytes_eq k) (map key ys)) h)
  where
    by : (list_any (bytes_eq k) (map key ys) ≡ true → (x : A) × In x ys × (k ≡ key x)) → (bytes_eq k (key y) ≡ true) ⊎ (list_any (bytes_eq k) (map key ys) ≡ true) → (x : A) × In x (y ∷ ys) × (k ≡ key x)
    by rest (inl here) = (y, inl refl, bytes_eq-same k (key y) here)
    by rest (inr there) = let more = rest there in (more.0, inr more.1, more.2)

pub list_any-from_key : {A : Type 0} (key : A → List ℕ) (k : List ℕ) (xs : List A) (x : A) → In x xs → k ≡ key x → list_any (bytes_eq k) (map key xs) ≡ true
list_any-from_key key k xs x i same = list_any-In (bytes_eq k) (map key xs) (key x) (In-map key xs x i) (ap (bytes_eq k) (sym same) ∙ bytes_eq-refl k)
