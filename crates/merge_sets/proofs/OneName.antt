-- Fields of one response name.
use Rattle.std.proofs.Common.{◌≡◌, ◌==◌, ℕ, ◌<◌, List, [], ◌∷◌, length, get_or, sym, subst, arith, Bool, true, false, cond, None}
use Rattle.std.specs.List.{All, Contains, filter, list_any}
use Rattle.std.proofs.lemmas.List.Elements.{Contains-get_or, Contains-push, Contains-append_left, Contains-append_right, All-cons, All-weaker, All-contains, All-contains_itself, All-filter, filter_passes}
use Rattle.std.proofs.lemmas.List.Folds.{Any-from_list_any}
use Rattle.merge_sets.specs.declared.node.Entry.{Entry}
use Rattle.merge_sets.specs.Names.{named, AreListed}

-- stands where there is no field
abbrev pub no_entry : Entry
no_entry = record { response = 0; field = 0; below = None }

pub in_list : {X : Type 0} (xs ys : List X) (k : ℕ) (d : X) → xs ≡ ys → k < length xs → Contains ys (get_or xs k d)
in_list xs ys k d eq l = subst (λ zs. Contains zs (get_or xs k d)) eq (Contains-get_or xs k d l)

eq_from : (m n : ℕ) → (m == n) ≡ true → m ≡ n
eq_from m n h = grind arith

eq_to : (m n : ℕ) → m ≡ n → (m == n) ≡ true
eq_to m n h = grind arith

-- the fields of one name are own fields, of that name
pub named_own : (n : ℕ) (xs : List Entry) (a : Entry) → Contains (named n xs) a → Contains xs a
named_own n xs a c = All-contains (λ x. Contains xs x) (named n xs) a (All-filter (λ x. x.response == n) (λ x. Contains xs x) xs (All-contains_itself xs)) c

pub named_is : (n : ℕ) (xs : List Entry) (a : Entry) → Contains (named n xs) a → a.response ≡ n
named_is n xs a c = eq_from a.response n (All-contains (λ x. (x.response == n) ≡ true) (named n xs) a (filter_passes (λ x. x.response == n) xs) c)

further : (b : Bool) (x : Entry) (ys : List Entry) (a : Entry) → Contains ys a → Contains (cond b (x ∷ ys) ys) a
further true x ys a c = Contains-append_right (x ∷ []) ys a c
further false x ys a c = c

-- and all of them
pub kept : (test : Entry → Bool) (xs : List Entry) → All (λ a. test a ≡ true → Contains (filter test xs) a) xs
kept test [] = λ k d l. absurd (omega (arith, l))
kept test (x ∷ xs) = All-cons (λ a. test a ≡ true → Contains (filter test (x ∷ xs)) a) x xs
    (λ yes. subst (λ b. Contains (cond b (x ∷ filter test xs) (filter test xs)) x) (sym yes) (Contains-append_left (x ∷ []) (filter test xs) x (Contains-push [] x)))
    (All-weaker (λ a. test a ≡ true → Contains (filter test xs) a) (λ a. test a ≡ true → Contains (filter test (x ∷ xs)) a)
    (λ a f yes. further (test x) x (filter test xs) a (f yes)) xs (kept test xs))

pub named_in : (n : ℕ) (xs : List Entry) (a : Entry) → Contains xs a → a.response ≡ n → Contains (named n xs) a
named_in n xs a c is = All-contains (λ x. (x.response == n) ≡ true → Contains (named n xs) x) xs a (kept (λ x. x.response == n) xs) c (eq_to a.response n is)

-- the first of the name of a field
pub listed_in : (firsts xs : List Entry) (a : Entry) → AreListed firsts xs → Contains xs a → (f : Entry) × Contains firsts f × (a.response ≡ f.response)
listed_in firsts xs a h c =
    let (k, f, inside, at, same) = Any-from_list_any (λ f. a.response == f.response) firsts (All-contains (λ x. list_any (λ f. x.response == f.response) firsts ≡ true) xs a h c) in
    (f, (k, inside, at), eq_from a.response f.response same)
