-- What the front of a text is, by whether it is long enough and is UTF-8.
use Rattle.std.proofs.lemmas.Bool.Decides.{nat_tests}
use Rattle.std.proofs.Common.{◌≡◌, ◌<◌, ◌≤◌, ℕ, List, Bool, true, false, Some, None, ◌&&◌, nat_le, if◌then◌else◌, length, take, refl, arith}
use Rattle.std.specs.Str.{is_utf8, IsUtf8}
use Rattle.std.proofs.lemmas.Str.{IsUtf8-from_is_utf8, is_utf8-from_IsUtf8}

pub some_case : {A B : Type 0} (b : Bool) (x s : A) (f : A → B) (z : B) → Some s ≡ (if b then Some x else None) → f s ≡ (if b then f x else z)
some_case true x s f z h = cc
some_case false x s f z h = cc

pub none_case : {A B : Type 0} (b : Bool) (x : A) (f : A → B) (z : B) → None ≡ (if b then Some x else None) → z ≡ (if b then f x else z)
none_case true x f z h = cc
none_case false x f z h = refl

both_true : (a b : Bool) (x : List ℕ) → a ≡ true → b ≡ true → Some x ≡ (if a && b then Some x else None)
both_true a b x p q = simp (p, q)

second_false : (a b : Bool) (x : List ℕ) → (b ≡ true → ⊥) → None ≡ (if a && b then Some x else None)
second_false false b x q = refl
second_false true true x q = absurd (q refl)
second_false true false x q = refl

first_false : (a b : Bool) (x : List ℕ) → a ≡ false → None ≡ (if a && b then Some x else None)
first_false a b x p = simp p

pub front_there : (text s : List ℕ) (n : ℕ) → n ≤ length text → s ≡ take n text → IsUtf8 (take n text) → Some s ≡ (if nat_le n (length text) && is_utf8 (take n text) then Some (take n text) else None)
front_there text s n h e u = let b : nat_le n (length text) ≡ true = grind (arith, nat_tests) in rw e (both_true _ _ _ b (is_utf8-from_IsUtf8 _ u))

pub front_bad : (text : List ℕ) (n : ℕ) → (IsUtf8 (take n text) → ⊥) → None ≡ (if nat_le n (length text) && is_utf8 (take n text) then Some (take n text) else None)
front_bad text n h = second_false _ _ _ (λ e. h (IsUtf8-from_is_utf8 _ e))

pub front_short : (text : List ℕ) (n : ℕ) → length text < n → None ≡ (if nat_le n (length text) && is_utf8 (take n text) then Some (take n text) else None)
front_short text n h = let b : nat_le n (length text) ≡ false = grind (arith, nat_tests) in first_false _ _ _ b
