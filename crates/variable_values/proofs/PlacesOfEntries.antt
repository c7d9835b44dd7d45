-- The places of the last entries, one more entry at a time.
use Rattle.std.proofs.Common.{◌≡◌, ℕ, ◌+◌, ◌<◌, List, [], ◌∷◌, ◌++◌, take, length, get_or, reverse, Bool, true, false, cond, Option, Some, string_bytes, Bor, refl, sym, ap, ◌∙◌, subst}
use Rattle.std.specs.Prelude.{find, option_map}
use Rattle.std.specs.Str.{bytes_eq}
use Rattle.std.proofs.lemmas.List.{get_or_default, reverse-append, take_more}
use Rattle.std.specs.BTreeMap.{BTreeMap, UpdatesBy}
use Rattle.std.specs.Cmp.Lexicographic.{slice_cmp}
use Rattle.std.specs.Ordering.{nat_cmp}
use Rattle.std.proofs.lemmas.Map.Text.{btree_map_updates_str}
use Rattle.language_values.specs.Values.{Entry, last_value}
use Rattle.variable_values.specs.Entries.{IsPlaceOf, place_in}

after_one : {A B : Type 0} (f : A → B) (p : A → Bool) (e : A) (es : List A) → option_map f (find p (e ∷ es)) ≡ cond (p e) (Some (f e)) (option_map f (find p es))
after_one f p e es = elim (p e) as (λ b. option_map f (cond b (Some e) (find p es)) ≡ cond b (Some (f e)) (option_map f (find p es))) [ true ↦ refl | false ↦ refl ]

-- the last value of a key, one entry more
last_more : {A : Type 0} (key : List ℕ) (es : List (Entry A)) (i : ℕ) (e : Entry A) → i < length es → e ≡ get_or es i e → last_value key (take (i + 1) es) ≡ cond (bytes_eq (string_bytes e.0.item) key) (Some e.1.item) (last_value key (take i es))
last_more key es i e here is =
    ap (last_value key) (take_more es i e here ∙ ap (λ x. take i es ++ x ∷ []) (sym is))
    ∙ ap (λ xs. option_map (λ x. x.1.item) (find (λ x. bytes_eq (string_bytes x.0.item) key) xs)) (reverse-append (take i es) (e ∷ []))
    ∙ after_one (λ x. x.1.item) (λ x. bytes_eq (string_bytes x.0.item) key) e (reverse (take i es))

place_step : {A : Type 0} (b : Bool) (es : List (Entry A)) (i : ℕ) (e : Entry A) (q : Option A) (o : Option ℕ) → i < length es → e ≡ get_or es i e → IsPlaceOf es q o → IsPlaceOf es (cond b (Some e.1.item) q) (cond b (Some i) o)
place_step true es i e q o here is h = (here, λ d. ap (λ x. Some x.1.item) (is ∙ get_or_default es i e d here))
place_step false es i e q o here is h = h

-- one entry more
pub places_more : {A : Type 0} (es : List (Entry A)) (i : ℕ) (e : Entry A) (name : List ℕ) (old new : BTreeMap (Bor (List ℕ)) ℕ) → i < length es → e ≡ get_or es i e → name ≡ string_bytes e.0.item
    → ((key : List ℕ) → IsPlaceOf es (last_value key (take i es)) (place_in old key))
    → UpdatesBy (λ x y. slice_cmp nat_cmp x.now y.now) (λ k. slice_cmp nat_cmp name k.now) old new (Some i)
    → (key : List ℕ) → IsPlaceOf es (last_value key (take (i + 1) es)) (place_in new key)
places_more es i e name old new here is named kept updates = λ key.
    subst (IsPlaceOf es (last_value key (take (i + 1) es))) (sym (btree_map_updates_str name old new (Some i) updates key))
    (subst (λ q. IsPlaceOf es q (cond (bytes_eq name key) (Some i) (place_in old key)))
    (ap (λ n. cond (bytes_eq n key) (Some e.1.item) (last_value key (take i es))) named ∙ sym (last_more key es i e here is))
    (place_step (bytes_eq name key) es i e (last_value key (take i es)) (place_in old key) here is (kept key)))
