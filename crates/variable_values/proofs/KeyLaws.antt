-- Keys that no input field has, as they are noted.
use Rattle.std.proofs.Common.{◌≡◌, ℕ, ◌+◌, ◌<◌, List, [], ◌∷◌, ◌++◌, append_assoc, Bool, true, false, cond, ◌||◌, map, take, length, get_or, Bor, refl, ap, sym, ◌∙◌, subst, if◌then◌else◌}
use Rattle.std.specs.BTreeSet.{BTreeSet, Updates}
use Rattle.std.specs.Cmp.Lexicographic.{slice_cmp}
use Rattle.std.specs.Ordering.{nat_cmp}
use Rattle.std.specs.Str.{bytes_eq}
use Rattle.std.proofs.lemmas.Map.Text.{is_eq-slice_cmp}
use Rattle.std.proofs.lemmas.List.{append-nil, map-append, take_more}
use Rattle.std.proofs.lemmas.List.Sums.{fold_more}
use Rattle.std.proofs.lemmas.List.Folds.{list_any-append}
use Rattle.std.proofs.lemmas.Slice.Eq.{bytes_eq-Decides}
use Rattle.schema.specs.Possible.{is_among}
use Rattle.variable_values.specs.NameSet.{has_name}
use Rattle.variable_values.specs.Faults.{unknown_field}
use Rattle.variable_values.specs.Keys.{noted, unknown_keys}
use Rattle.variable_values.specs.Messages.{told_after}

-- a set of names, after a name more
pub has_more : (k : Bor (List ℕ)) (s n : BTreeSet (Bor (List ℕ))) → Updates (λ x y. slice_cmp nat_cmp x.now y.now) s n k true → (name : List ℕ) → has_name n name ≡ cond (bytes_eq k.now name) true (has_name s name)
has_more k s n h name = h.0 (record { ref_ptr = k.ref_ptr; now = name }) ∙ ap (λ b. cond b true (has_name s name)) (is_eq-slice_cmp k.now name)

last_of : (a b : Bool) → cond b true a ≡ (a || (b || false))
last_of true true = refl
last_of true false = refl
last_of false true = refl
last_of false false = refl

last_of_both : (a b c : Bool) → cond c true (a || b) ≡ (a || (b || (c || false)))
last_of_both true true true = refl
last_of_both true true false = refl
last_of_both true false true = refl
last_of_both true false false = refl
last_of_both false true true = refl
last_of_both false true false = refl
last_of_both false false true = refl
last_of_both false false false = refl

-- the names in it are those of a list, with a name more
pub is_among-more : (k : Bor (List ℕ)) (s n : BTreeSet (Bor (List ℕ))) (names : List (List ℕ)) → Updates (λ x y. slice_cmp nat_cmp x.now y.now) s n k true
    → ((name : List ℕ) → has_name s name ≡ is_among names name)
    → (name : List ℕ) → has_name n name ≡ is_among (names ++ k.now ∷ []) name
is_among-more k s n names h p name =
    has_more k s n h name ∙ ap (λ a. cond (bytes_eq k.now name) true a) (p name) ∙ last_of (is_among names name) (bytes_eq k.now name)
    ∙ sym (list_any-append (λ q. bytes_eq q name) names (k.now ∷ []))

-- the names in it are those of fields and those that were noted
abbrev pub HasBoth : BTreeSet (Bor (List ℕ)) → List (List ℕ) → List (List ℕ) → Type 0
HasBoth s fields names = (name : List ℕ) → has_name s name ≡ (is_among fields name || is_among names name)

there_already : (b : Bool) (k name : List ℕ) (t : Bool) → bytes_eq k name ≡ b → (k ≡ name → t ≡ true) → cond b true t ≡ t
there_already true k name t e h = sym (h ((bytes_eq-Decides k name).0 e))
there_already false k name t e h = refl

-- one key more: it is noted where it isn't there already
pub noted_more : (b : Bool) (k : List ℕ) (s n : BTreeSet (Bor (List ℕ))) (fields names : List (List ℕ)) → has_name s k ≡ b
    → ((name : List ℕ) → has_name n name ≡ cond (bytes_eq k name) true (has_name s name))
    → HasBoth s fields names → (noted fields names k ≡ names ++ cond b [] (k ∷ [])) × HasBoth n fields (noted fields names k)
noted_more true k s n fields names there h p =
    let same : noted fields names k ≡ names = ap (λ b. if b then names else names ++ k ∷ []) (sym (p k) ∙ there) in (
      same ∙ sym (append-nil names),
      λ name.
          h name ∙ there_already (bytes_eq k name) k name (has_name s name) refl (λ e. subst (λ q. has_name s q ≡ true) e there)
          ∙ p name ∙ ap (λ ns. is_among fields name || is_among ns name) (sym same),
    )
noted_more false k s n fields names missing h p =
    let more : noted fields names k ≡ names ++ k ∷ [] = ap (λ b. if b then names else names ++ k ∷ []) (sym (p k) ∙ missing) in (
      more,
      λ name.
          h name ∙ ap (λ a. cond (bytes_eq k name) true a) (p name) ∙ last_of_both (is_among fields name) (is_among names name) (bytes_eq k name)
          ∙ ap (λ a. is_among fields name || a) (sym (list_any-append (λ q. bytes_eq q name) names (k ∷ [])))
          ∙ ap (λ ns. is_among fields name || is_among ns name) (sym more),
    )

-- what is told of the names, with one more
pub told_noted : (b : Bool) (before k : List ℕ) (start old new names more : List (List ℕ)) → old ≡ start ++ map (told_after before) (map unknown_field names)
    → new ≡ old ++ cond b [] (told_after before (unknown_field k) ∷ []) → more ≡ names ++ cond b [] (k ∷ []) → new ≡ start ++ map (told_after before) (map unknown_field more)
told_noted true before k start old new names more o n m =
    n ∙ append-nil old ∙ o ∙ ap (λ ns. start ++ map (told_after before) (map unknown_field ns)) (sym (m ∙ append-nil names))
told_noted false before k start old new names more o n m =
    n ∙ ap (λ ts. ts ++ told_after before (unknown_field k) ∷ []) o
    ∙ append_assoc start (map (told_after before) (map unknown_field names)) (told_after before (unknown_field k) ∷ [])
    ∙ ap (λ ts. start ++ ts)
    (sym
    (ap (map (told_after before)) (ap (map unknown_field) m ∙ map-append unknown_field names (k ∷ []))
    ∙ map-append (told_after before) (map unknown_field names) (unknown_field k ∷ [])))

-- the keys that no field has, among one key more
pub unknown_more : (fields keys : List (List ℕ)) (i : ℕ) (k : List ℕ) → i < length keys → get_or keys i k ≡ k → unknown_keys fields (take (i + 1) keys) ≡ noted fields (unknown_keys fields (take i keys)) k
unknown_more fields keys i k here is = fold_more (noted fields) [] keys i k here ∙ ap (noted fields (unknown_keys fields (take i keys))) is

-- what is made of one element more
pub map_more : {A B : Type 0} (f : A → B) (xs : List A) (i : ℕ) (x : A) → i < length xs → x ≡ get_or xs i x → map f (take (i + 1) xs) ≡ map f (take i xs) ++ f x ∷ []
map_more f xs i x here is = ap (map f) (take_more xs i x here) ∙ map-append f (take i xs) (get_or xs i x ∷ []) ∙ ap (λ y. map f (take i xs) ++ f y ∷ []) (sym is)
