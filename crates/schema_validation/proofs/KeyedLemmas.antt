-- Lists whose entries have names, and maps of them: a look-up by key finds the first entry of the name.
use Rattle.std.proofs.Common.{◌≡◌, ℕ, List, [], ◌∷◌, Bool, true, false, cond, not, Option, Some, None, ◌++◌, string_bytes, refl, ap, sym, ◌∙◌, map}
use Rattle.std.specs.Prelude.{String, find, IfSome}
use Rattle.std.specs.declared.alloc.Global.{Global}
use Rattle.std.specs.List.{list_any, list_all}
use Rattle.std.specs.Map.{lookup}
use Rattle.std.specs.Str.{bytes_eq}
use Rattle.std.specs.Option.{option_map_or}
use Rattle.std.proofs.lemmas.Bool.{and_parts, and_from, or_parts}
use Rattle.std.proofs.lemmas.Bool.Decides.{same_from_decides}
use Rattle.std.proofs.lemmas.Slice.Eq.{bytes_eq-Decides}
use Rattle.schema_validation.specs.Named.{is_called, is_any_called, are_distinct, are_keyed}
use Rattle.schema_validation.proofs.Finds.{not-true}

pub bytes_eq-sym : (xs ys : List ℕ) → bytes_eq xs ys ≡ bytes_eq ys xs
bytes_eq-sym xs ys =
    same_from_decides (bytes_eq xs ys) (bytes_eq ys xs) (bytes_eq-Decides xs ys) (λ h. sym ((bytes_eq-Decides ys xs).0 h), λ e. (bytes_eq-Decides ys xs).1 (sym e))

pub list_all-middle : {X : Type 0} (p : X → Bool) (ys : List X) (m : X) (zs : List X) → list_all p (ys ++ m ∷ zs) ≡ true → p m ≡ true
list_all-middle p [] m zs h = (and_parts (p m) (list_all p zs) h).0
list_all-middle p (y ∷ ys) m zs h = list_all-middle p ys m zs (and_parts (p y) (list_all p (ys ++ m ∷ zs)) h).1

list_any-middle : {X : Type 0} (p : X → Bool) (ys : List X) (m : X) (zs : List X) → list_any p (ys ++ m ∷ zs) ≡ false → p m ≡ false
list_any-middle p [] m zs h = (or_parts (p m) (list_any p zs) h).0
list_any-middle p (y ∷ ys) m zs h = list_any-middle p ys m zs (or_parts (p y) (list_any p (ys ++ m ∷ zs)) h).1

called_by : (name key : List ℕ) (o : Option (List ℕ)) → option_map_or (λ n. bytes_eq n key) o false ≡ true → option_map_or (λ n. bytes_eq n name) o false ≡ bytes_eq name key
called_by name key None h = cc
called_by name key (Some n) h =
    let same : n ≡ key = (bytes_eq-Decides n key).0 h in
    ap (λ w. bytes_eq w name) same ∙ bytes_eq-sym key name

module _ {T : Type 0} (name_of : T → Option (List ℕ)) where
  pub lookup-find : (name : List ℕ) (es : List (String Global × T)) → are_keyed name_of es ≡ true → lookup (λ k. bytes_eq name (string_bytes k)) es ≡ find (is_called name_of name) (map (λ e. e.1) es)
  lookup-find name [] h = refl
  lookup-find name (e ∷ es) h =
      let p = and_parts (is_called name_of (string_bytes e.0) e.1) (are_keyed name_of es) h in
      ap (λ b. cond b (Some e.1) (lookup (λ k. bytes_eq name (string_bytes k)) es)) (sym (called_by name (string_bytes e.0) (name_of e.1) p.0))
      ∙ ap (λ r. cond (is_called name_of name e.1) (Some e.1) r) (lookup-find name es p.1)

  pub keyed-push : (k : String Global) (v : T) (es : List (String Global × T)) → is_called name_of (string_bytes k) v ≡ true → are_keyed name_of es ≡ true → are_keyed name_of (es ++ (k, v) ∷ []) ≡ true
  keyed-push k v [] p h = and_from (is_called name_of (string_bytes k) v) true p refl
  keyed-push k v (e ∷ es) p h =
      let q = and_parts (is_called name_of (string_bytes e.0) e.1) (are_keyed name_of es) h in
      and_from (is_called name_of (string_bytes e.0) e.1) (are_keyed name_of (es ++ (k, v) ∷ [])) q.0 (keyed-push k v es p q.1)

pub values-push : {T : Type 0} (k : String Global) (v : T) (es : List (String Global × T)) → map (λ e. e.1) (es ++ (k, v) ∷ []) ≡ map (λ e. e.1) es ++ v ∷ []
values-push k v [] = refl
values-push k v (e ∷ es) = ap (λ r. e.1 ∷ r) (values-push k v es)

module _ {T : Type 0} (name_of : T → Option (List ℕ)) (m : T) (n : List ℕ) (named : name_of m ≡ Some n) where
  -- at the name of one entry before m
  other : (o : Option (List ℕ)) (ys zs : List T) → option_map_or (λ k. not (is_any_called name_of (ys ++ m ∷ zs) k)) o true ≡ true → option_map_or (λ k. bytes_eq k n) o false ≡ false
  other None ys zs h = refl
  other (Some k) ys zs h =
      let absent : is_called name_of k m ≡ false = list_any-middle (is_called name_of k) ys m zs (not-true (is_any_called name_of (ys ++ m ∷ zs) k) h) in
      bytes_eq-sym k n ∙ sym (ap (λ o. option_map_or (λ w. bytes_eq w k) o false) named) ∙ absent

  pub find-distinct : (ys zs : List T) → are_distinct name_of (ys ++ m ∷ zs) ≡ true → find (is_called name_of n) ys ≡ None
  find-distinct [] zs h = refl
  find-distinct (y ∷ ys) zs h =
      let q = and_parts (option_map_or (λ k. not (is_any_called name_of (ys ++ m ∷ zs) k)) (name_of y) true) (are_distinct name_of (ys ++ m ∷ zs)) h in
      ap (λ b. cond b (Some y) (find (is_called name_of n) ys)) (other (name_of y) ys zs q.0) ∙ find-distinct ys zs q.1

-- in a list of distinct names, an earlier entry has another name
pub lookup-distinct : {T : Type 0} (name_of : T → Option (List ℕ)) (m : T) (es : List (String Global × T)) (ys zs : List T) (o : Option (List ℕ)) → name_of m ≡ o → are_keyed name_of es ≡ true → map (λ e. e.1) es ≡ ys → are_distinct name_of (ys ++ m ∷ zs) ≡ true → IfSome o (λ n. lookup (λ k. bytes_eq n (string_bytes k)) es ≡ None)
lookup-distinct name_of m es ys zs None named keyed same h = tt
lookup-distinct name_of m es ys zs (Some n) named keyed same h =
    lookup-find name_of n es keyed ∙ ap (find (is_called name_of n)) same ∙ find-distinct name_of m n named ys zs h
