-- The last value of a key is that of an entry.
use Rattle.std.proofs.Common.{◌≡◌, ℕ, ◌-◌, ◌<◌, List, [], ◌∷◌, Option, Some, None, length, get_or, reverse, string_bytes, zero, suc, refl, sym, subst, ◌∙◌, arith}
use Rattle.std.specs.Prelude.{Contains, find, option_map}
use Rattle.std.specs.Str.{bytes_eq}
use Rattle.std.proofs.lemmas.List.{get_or-reverse, length-reverse}
use Rattle.language_values.specs.Values.{Entry, last_value}
use Rattle.language_values.specs.Each.{Each}
use Rattle.schema_validation.proofs.Finds.{found-among}

Contains-reversed : {A : Type 0} (xs : List A) (x : A) → Contains (reverse xs) x → Contains xs x
Contains-reversed xs x (i, here, is) =
    let same : length (reverse xs) ≡ length xs = length-reverse xs in
    let within : i < length xs = omega arith in
    let other : length xs - 1 - i < length xs = omega arith in
    (length xs - 1 - i, other, sym (get_or-reverse xs i x within) ∙ is)

of_some : {A B : Type 0} (f : A → B) (o : Option A) (b : B) → option_map f o ≡ Some b → (a : A) × (Some a ≡ o) × (f a ≡ b)
of_some f None b e = cc
of_some f (Some a) b e = (a, refl, cc)

pub last_entry : {A : Type 0} (key : List ℕ) (es : List (Entry A)) (x : A) → last_value key es ≡ Some x → (e : Entry A) × Contains es e × (e.1.item ≡ x)
last_entry {A} key es x h =
    let test = λ (e : Entry A). bytes_eq (string_bytes e.0.item) key in
    let at = of_some (λ (e : Entry A). e.1.item) (find test (reverse es)) x h in
    (at.0, Contains-reversed es at.0 (found-among test (reverse es) at.0 at.1), at.2)

-- what holds of each element holds of one
pub each-at : {A : Type 0} (P : A → Type 0) (xs : List A) (i : ℕ) (x : A) → i < length xs → get_or xs i x ≡ x → Each P xs → P x
each-at P [] i x here is h = absurd (omega arith)
each-at P (y ∷ ys) zero x here is h = subst P is h.0
each-at P (y ∷ ys) (suc i) x here is h = each-at P ys i x (omega arith) is h.1
