-- The last value of a key, one more entry at a time.
use Rattle.std.proofs.Common.{◌≡◌, ℕ, ◌+◌, ◌<◌, List, [], ◌∷◌, take, length, get_or, reverse, Bool, true, false, cond, Option, Some, string_bytes, Bor, refl, sym, ap, ◌∙◌}
use Rattle.std.specs.Prelude.{find, option_map}
use Rattle.std.specs.Option.{option_copied}
use Rattle.std.specs.Str.{bytes_eq}
use Rattle.std.proofs.lemmas.List.{reverse-append, take_more}
use Rattle.std.specs.BTreeMap.{BTreeMap, UpdatesBy, get_by}
use Rattle.std.specs.Cmp.Lexicographic.{slice_cmp}
use Rattle.std.specs.Ordering.{nat_cmp}
use Rattle.std.proofs.lemmas.Map.Text.{btree_map_updates_str}
use Rattle.language_values.specs.Values.{Entry, last_value, IsMapOf}

-- what is there after the entry, by a test of its key
after_one : {A : Type 0} (p : A → Bool) (e : A) (es : List A) → {B : Type 0} (f : A → B) → option_map f (find p (e ∷ es)) ≡ cond (p e) (Some (f e)) (option_map f (find p es))
after_one p e es f = elim (p e) as (λ b. option_map f (cond b (Some e) (find p es)) ≡ cond b (Some (f e)) (option_map f (find p es))) [ true ↦ refl | false ↦ refl ]

last_value-more : {A : Type 0} (key : List ℕ) (es : List (Entry A)) (i : ℕ) (d : Entry A) → i < length es → last_value key (take (i + 1) es) ≡ cond (bytes_eq (string_bytes (get_or es i d).0.item) key) (Some (get_or es i d).1.item) (last_value key (take i es))
last_value-more key es i d here =
    ap (λ xs. last_value key xs) (take_more es i d here)
    ∙ ap (λ xs. option_map (λ e. e.1.item) (find (λ e. bytes_eq (string_bytes e.0.item) key) xs)) (reverse-append (take i es) (get_or es i d ∷ []))
    ∙ after_one (λ e. bytes_eq (string_bytes e.0.item) key) (get_or es i d) (reverse (take i es)) (λ e. e.1.item)

option_copied-cond : {A : Type 0} (b : Bool) (x : Bor A) (o : Option (Bor A)) → option_copied (cond b (Some x) o) ≡ cond b (Some x.now) (option_copied o)
option_copied-cond b x o = elim b as (λ w. option_copied (cond w (Some x) o) ≡ cond w (Some x.now) (option_copied o)) [ true ↦ refl | false ↦ refl ]

-- a map of the first entries, after the insertion of the next one
pub IsMapOf-more : {A : Type 0} (es : List (Entry A)) (i : ℕ) (e : Entry A) (name : List ℕ) (v : Bor A) (old new : BTreeMap (Bor (List ℕ)) (Bor A)) → i < length es → e ≡ get_or es i e → name ≡ string_bytes e.0.item → v.now ≡ e.1.item → IsMapOf old (take i es) → UpdatesBy (λ x y. slice_cmp nat_cmp x.now y.now) (λ k. slice_cmp nat_cmp name k.now) old new (Some v) → IsMapOf new (take (i + 1) es)
IsMapOf-more {A} es i e name v old new here is named valued kept updates = λ key.
    let found : Option A = option_copied (get_by (λ k. slice_cmp nat_cmp key k.now) old) in
    let before : Option A = last_value key (take i es) in
    ap option_copied (btree_map_updates_str name old new (Some v) updates key)
    ∙ option_copied-cond (bytes_eq name key) v (get_by (λ k. slice_cmp nat_cmp key k.now) old)
    ∙ ap (λ n. cond (bytes_eq n key) (Some v.now) found) named
    ∙ ap (λ a. cond (bytes_eq (string_bytes e.0.item) key) (Some a) found) valued
    ∙ ap (λ o. cond (bytes_eq (string_bytes e.0.item) key) (Some e.1.item) o) (kept key)
    ∙ ap (λ w. cond (bytes_eq (string_bytes w.0.item) key) (Some w.1.item) before) is
    ∙ sym (last_value-more key es i e here)
