-- Maps that have some names more.
use Rattle.std.proofs.Common.{◌≡◌, ◌∙◌, ◌+◌, ◌<◌, ◌||◌, ℕ, Bool, true, false, cond, List, [], ◌∷◌, ◌++◌, Option, None, Some, Bor, length, get_or, take, ap, refl, sym, subst}
use Rattle.std.specs.List.{flat_map}
use Rattle.std.specs.List.Sorted.{IsPermutation}
use Rattle.std.specs.Option.{is_some}
use Rattle.std.specs.Str.{bytes_eq}
use Rattle.std.proofs.lemmas.Grind.{flat_map-append}
use Rattle.std.proofs.lemmas.List.{append-nil, take_more}
use Rattle.std.proofs.lemmas.List.Folds.{list_any-append}
use Rattle.std.proofs.lemmas.List.Sorted.{list_any-IsPermutation}
use Rattle.graphql_reader.specs.declared.type_system.RootOperationType.{RootOperationType}
use Rattle.graphql_reader.specs.declared.type_system.TypeSystemDefinition.{TypeSystemDefinition}
use Rattle.language_types.specs.Names.{is_among}
use Rattle.name_tables.specs.declared.map.NameMap.{NameMap}
use Rattle.name_tables.specs.Adding.{Adds, or_else}
use Rattle.name_tables.specs.Maps.{index_of}
use Rattle.sdl_index.specs.declared.error.PlacedFault.{PlacedFault}
use Rattle.sdl_mending.specs.Touched.{Grows, has_name, named_by, places, root_names, touched_in, touched_types, types_of}

some_else : {T : Type 0} (o : Option T) (b : Bool) (x : T) → is_some (or_else o (cond b (Some x) None)) ≡ (is_some o || (b || false))
some_else None true x = refl
some_else None false x = refl
some_else (Some y) true x = refl
some_else (Some y) false x = refl

-- a name was added
pub grown : {T : Type 0} (name : Bor (List ℕ)) (value : T) (old new : NameMap T) → Adds name value old new → Grows (name.now ∷ []) old new
grown name value old new h n = ap is_some (h.indices n) ∙ some_else (index_of old n) (bytes_eq name.now n) _

or_assoc : (a b c : Bool) → ((a || b) || c) ≡ (a || (b || c))
or_assoc true b c = refl
or_assoc false b c = refl

or_none : (a : Bool) → a ≡ (a || false)
or_none true = refl
or_none false = refl

-- no name was added
pub grows_none : {T : Type 0} (old : NameMap T) → Grows [] old old
grows_none old n = or_none (has_name old n)

-- some names, and then others
pub grows_both : {T : Type 0} (a b : List (List ℕ)) (old middle new : NameMap T) → Grows a old middle → Grows b middle new → Grows (a ++ b) old new
grows_both a b old middle new first second n =
    second n ∙ ap (λ z. z || is_among b n) (first n) ∙ or_assoc (has_name old n) (is_among a n) (is_among b n)
    ∙ ap (λ z. has_name old n || z) (sym (list_any-append (λ m. bytes_eq m n) a b))

-- those of the items that were seen, and then those of the next
pub grows_next : {T X : Type 0} (f : X → List (List ℕ)) (xs : List X) (i : ℕ) (x d : X) (old middle new : NameMap T) → i < length xs → x ≡ get_or xs i d
    → Grows (flat_map f (take i xs)) old middle → Grows (f x) middle new → Grows (flat_map f (take (i + 1) xs)) old new
grows_next f xs i x d old middle new here is seen more =
    let next : flat_map f (take i xs) ++ f x ≡ flat_map f (take (i + 1) xs) =
    ap (λ z. flat_map f (take i xs) ++ z) (ap f is ∙ sym (append-nil (f (get_or xs i d))))
    ∙ sym (ap (flat_map f) (take_more xs i d here) ∙ flat_map-append f (take i xs) (get_or xs i d ∷ [])) in
    subst (λ ns. Grows ns old new) next (grows_both (flat_map f (take i xs)) (f x) old middle new seen more)

as_roots : (rs : List RootOperationType) → flat_map (λ r. r.name.item.now ∷ []) rs ≡ root_names rs
as_roots [] = refl
as_roots (r ∷ rs) = ap (λ z. r.name.item.now ∷ z) (as_roots rs)

-- those of the roots that were seen, and then that of the next
pub grows_root : {T : Type 0} (rs : List RootOperationType) (i : ℕ) (r d : RootOperationType) (old middle new : NameMap T) → i < length rs → r ≡ get_or rs i d
    → Grows (root_names (take i rs)) old middle → Grows (r.name.item.now ∷ []) middle new → Grows (root_names (take (i + 1) rs)) old new
grows_root rs i r d old middle new here is seen more =
    subst (λ ns. Grows ns old new) (as_roots (take (i + 1) rs))
    (grows_next (λ (x : RootOperationType). x.name.item.now ∷ []) rs i r d old middle new here is (subst (λ ns. Grows ns old middle) (sym (as_roots (take i rs))) seen) more)

same_each : {X A : Type 0} (f g : X → List A) → ((x : X) → f x ≡ g x) → (xs : List X) → flat_map f xs ≡ flat_map g xs
same_each f g same [] = refl
same_each f g same (x ∷ xs) = ap (λ z. z ++ flat_map f xs) (same x) ∙ ap (λ z. g x ++ z) (same_each f g same xs)

-- the order of the places decides nothing
moved : (is js : List ℕ) → IsPermutation is js → (x : TypeSystemDefinition) → touched_in js x ≡ touched_in is x
moved is js h x = ap (λ b. cond b (types_of x) []) (sym (list_any-IsPermutation _ is js h))

-- all, in a map that had no name
pub touched_all : {T : Type 0} (document : List TypeSystemDefinition) (reasons : List PlacedFault) (js : List ℕ) (none first new : NameMap T)
    → IsPermutation (places reasons) js → ((n : List ℕ) → index_of none n ≡ None)
    → Grows (flat_map (touched_in js) document) none first → Grows (flat_map named_by reasons) first new
    → (n : List ℕ) → has_name new n ≡ is_among (touched_types document reasons) n
touched_all document reasons js none first new h empty one two n =
    let stood = same_each (touched_in js) (touched_in (places reasons)) (moved (places reasons) js h) document in
    grows_both (flat_map (touched_in js) document) (flat_map named_by reasons) none first new one two n
    ∙ ap (λ o. is_some o || is_among (flat_map (touched_in js) document ++ flat_map named_by reasons) n) (empty n)
    ∙ ap (λ ns. is_among (ns ++ flat_map named_by reasons) n) stood
