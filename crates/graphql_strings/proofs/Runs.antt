-- Runs at the front of a list, and lists that begin with a word.
use Rattle.std.proofs.Common.{◌≡◌, ◌+◌, ℕ, suc, List, [], ◌∷◌, ◌++◌, Bool, true, false, ◌&&◌, nat_eq, cond, length, take, drop, refl, subst, arith}
use Rattle.std.proofs.lemmas.Bool.Decides.{nat_tests}
use Rattle.std.specs.List.{prefix_len, list_all}
use Rattle.graphql_strings.specs.Characters.{at, begins}

pub both : (a b : Bool) → (a && b) ≡ true → (a ≡ true) × (b ≡ true)
both true b h = (refl, h)
both false b h = (let no : false ≡ true = h in cc, let no : false ≡ true = h in cc)

one_more : (k : ℕ) → suc k ≡ 1 + k
one_more k = omega arith

all_step : (p : ℕ → Bool) (x : ℕ) (xs : List ℕ) (b : Bool) → p x ≡ b → list_all p (take (prefix_len p xs) xs) ≡ true → list_all p (take (cond b (1 + prefix_len p xs) 0) (x ∷ xs)) ≡ true
all_step p x xs true h more = subst (λ k. list_all p (take k (x ∷ xs)) ≡ true) (one_more (prefix_len p xs)) (rw h more)
all_step p x xs false h more = refl

-- the run passes
pub run_all : (p : ℕ → Bool) (xs : List ℕ) → list_all p (take (prefix_len p xs) xs) ≡ true
run_all p [] = refl
run_all p (x ∷ xs) = all_step p x xs (p x) refl (run_all p xs)

stops_step : (p : ℕ → Bool) (x : ℕ) (xs : List ℕ) (b : Bool) → p x ≡ b → p (at (drop (prefix_len p xs) xs) 0) ≡ false → p (at (drop (cond b (1 + prefix_len p xs) 0) (x ∷ xs)) 0) ≡ false
stops_step p x xs true h more = subst (λ k. p (at (drop k (x ∷ xs)) 0) ≡ false) (one_more (prefix_len p xs)) more
stops_step p x xs false h more = h

-- what follows it does not
pub run_stops : (p : ℕ → Bool) → p 0 ≡ false → (xs : List ℕ) → p (at (drop (prefix_len p xs) xs) 0) ≡ false
run_stops p none [] = none
run_stops p none (x ∷ xs) = stops_step p x xs (p x) refl (run_stops p none xs)

-- a run of what passes, before what does not
pub run_length : (p : ℕ → Bool) (s r : List ℕ) → list_all p s ≡ true → p (at r 0) ≡ false → prefix_len p (s ++ r) ≡ length s
run_length p [] [] h k = refl
run_length p [] (x ∷ xs) h k = rw k refl
run_length p (c ∷ cs) r h k =
    let parts = both (p c) (list_all p cs) h in
    let more = run_length p cs r parts.1 k in
    rw parts.0 (omega arith)

pub same_byte : (x y : ℕ) → nat_eq x y ≡ true → y ≡ x
same_byte x y h = grind (arith, nat_tests)

-- a text that begins with a word is the word and the rest
pub begins_split : (w text : List ℕ) → begins w text ≡ true → text ≡ w ++ drop (length w) text
begins_split [] text h = refl
begins_split (x ∷ xs) [] h = cc
begins_split (x ∷ xs) (y ∷ ys) h =
    let parts = both (nat_eq x y) (begins xs ys) h in
    let more = begins_split xs ys parts.1 in
    let same = same_byte x y parts.0 in
    cc
