-- What a type may be, and which types overlap.
use Rattle.std.proofs.Common.{◌≡◌, ℕ, List, [], ◌∷◌, ◌++◌, ◌+◌, take, Bool, true, false, cond, not, ◌&&◌, ◌||◌, ◌<◌, zero, suc, length, get_or, arith, map, string_bytes, Bor, Option, Some, None, is_some, refl, ap, subst, sym, ◌∙◌}
use Rattle.std.specs.Prelude.{find, option_to_list, String}
use Rattle.std.specs.List.{list_any, list_all, filter, filter_map, flat_map, cons_option}
use Rattle.std.specs.Option.{option_map_or}
use Rattle.std.specs.Str.{bytes_eq}
use Rattle.std.specs.declared.alloc.Global.{Global}
use Rattle.std.proofs.lemmas.List.{take_more, map-append}
use Rattle.std.proofs.lemmas.List.Elements.{filter_map-append}
use Rattle.std.proofs.lemmas.Bool.{and_parts, and_from, or_parts, or_left, or_right}
use Rattle.std.proofs.lemmas.List.Folds.{Any-from_list_any, list_any-from_Any}
use Rattle.std.proofs.lemmas.Slice.Eq.{bytes_eq-Decides}
use Rattle.meta.specs.declared.kinds.MetaTypeOf.{MetaTypeOf}
use Rattle.meta.specs.declared.kinds.MetaTypeOf.TheVariants as k
use Rattle.schema_validation.specs.Accepted.{is_named, is_listed}
use Rattle.schema.specs.Catalog.{Catalog, type_in}
use Rattle.meta.specs.Kinds.{name_of_meta, is_abstract_meta}
use Rattle.schema_validation.specs.Named.{is_called, is_any_called, are_named, are_distinct}
use Rattle.schema_validation.specs.Names.{members_of}
use Rattle.schema.specs.Possible.{is_among, do_meet, is_implementer, possible_names, types_named, have_one_name, do_overlap}
use Rattle.schema.proofs.AcceptedLemmas.{find-called}
use Rattle.schema_validation.proofs.Finds.{found-passes, found-among}
use Rattle.schema_validation.proofs.KeyedLemmas.{bytes_eq-sym}
use Rattle.schema_validation.proofs.KindLemmas.{first-alone}
use Rattle.schema_validation.proofs.Refusals.{all-front, all-back, all-members}

pub or-false : (b : Bool) → (b || false) ≡ b
or-false true = refl
or-false false = refl

none-found : {A : Type 0} (p : A → Bool) (xs : List A) → list_any p xs ≡ false → find p xs ≡ None
none-found p [] h = refl
none-found p (x ∷ xs) h =
    let parts = or_parts (p x) (list_any p xs) h in
    ap (λ b. cond b (Some x) (find p xs)) parts.0 ∙ none-found p xs parts.1

module _ {T : Type 0} (name_of : T → Option (List ℕ)) (p : T → Bool) (n : List ℕ) where
  passing : List T → List (List ℕ)
  passing ts = filter_map name_of (filter p ts)

  here : (o : Option (List ℕ)) (t : T) (ts : List T) → name_of t ≡ o → is_among (filter_map name_of (t ∷ ts)) n ≡ (is_called name_of n t || is_among (filter_map name_of ts) n)
  here None t ts e = rw e refl
  here (Some k) t ts e = rw e refl

  step : (b : Bool) (t : T) (ts : List T) → p t ≡ b → is_among (passing (t ∷ ts)) n ≡ ((b && is_called name_of n t) || is_among (passing ts) n)
  unfolding passing
  step true t ts e = ap (λ c. is_among (filter_map name_of (cond c (t ∷ filter p ts) (filter p ts))) n) e ∙ here (name_of t) t (filter p ts) refl
  step false t ts e = ap (λ c. is_among (filter_map name_of (cond c (t ∷ filter p ts) (filter p ts))) n) e

  found : (b c : Bool) (t : T) (ts : List T) → is_called name_of n t ≡ c → p t ≡ b → (c ≡ true → find (is_called name_of n) ts ≡ None) → is_among (passing ts) n ≡ option_map_or p (find (is_called name_of n) ts) false
      → ((b && c) || is_among (passing ts) n) ≡ option_map_or p (cond c (Some t) (find (is_called name_of n) ts)) false
  found true true t ts e f alone rest = sym f
  found false true t ts e f alone rest = rest ∙ ap (λ o. option_map_or p o false) (alone refl) ∙ sym f
  found true false t ts e f alone rest = rest
  found false false t ts e f alone rest = rest

  -- among the names of what passes a test, where no two entries have one name: the entry of the name passes it
  among-passing : (ts : List T) → are_distinct name_of ts ≡ true → is_among (passing ts) n ≡ option_map_or p (find (is_called name_of n) ts) false
  unfolding passing
  among-passing [] h = refl
  among-passing (t ∷ ts) h =
      step (p t) t ts refl
      ∙ found (p t) (is_called name_of n t) t ts refl refl
      (λ e. none-found (is_called name_of n) ts (first-alone name_of t ts n h e))
      (among-passing ts (and_parts (option_map_or (λ k. not (is_any_called name_of ts k)) (name_of t) true) (are_distinct name_of ts) h).1)

  pub among-filter : (ts : List T) → are_distinct name_of ts ≡ true → is_among (filter_map name_of (filter p ts)) n ≡ option_map_or p (find (is_called name_of n) ts) false
  unfolding passing
  among-filter ts h = among-passing ts h

-- a name among the names of an option
pub among-option : (o : Option (List ℕ)) (n : List ℕ) → is_among (option_to_list o) n ≡ option_map_or (λ k. bytes_eq k n) o false
among-option None n = refl
among-option (Some k) n = or-false (bytes_eq k n)

-- the converse
pub meet-option : (o : Option (List ℕ)) (ys : List (List ℕ)) → do_meet (option_to_list o) ys ≡ option_map_or (is_among ys) o false
meet-option None ys = refl
meet-option (Some k) ys = or-false (is_among ys k)

meet-turned : (xs ys : List (List ℕ)) → do_meet xs ys ≡ true → do_meet ys xs ≡ true
meet-turned xs ys h =
    let a = Any-from_list_any (is_among ys) xs h in
    let b = Any-from_list_any (λ n. bytes_eq n a.1) ys a.4 in
    let same : bytes_eq a.1 b.1 ≡ true = bytes_eq-sym a.1 b.1 ∙ b.4 in
    list_any-from_Any (is_among xs) ys (b.0, b.1, b.2, b.3, list_any-from_Any (λ n. bytes_eq n b.1) xs (a.0, a.1, a.2, a.3, same))

same-truth : (a b : Bool) → (a ≡ true → b ≡ true) → (b ≡ true → a ≡ true) → a ≡ b
same-truth true b f g = sym (f refl)
same-truth false true f g = g refl
same-truth false false f g = refl

pub meet-sym : (xs ys : List (List ℕ)) → do_meet xs ys ≡ do_meet ys xs
meet-sym xs ys = same-truth (do_meet xs ys) (do_meet ys xs) (meet-turned xs ys) (meet-turned ys xs)

names-sym : (o p : Option (List ℕ)) → option_map_or (λ n. option_map_or (λ k. bytes_eq k n) p false) o false ≡ option_map_or (λ n. option_map_or (λ k. bytes_eq k n) o false) p false
names-sym None None = refl
names-sym None (Some k) = refl
names-sym (Some n) None = refl
names-sym (Some n) (Some k) = bytes_eq-sym k n

pub overlap-sym : {S C : Type 0} (ts : List (MetaTypeOf S C)) (t u : MetaTypeOf S C) → do_overlap ts t u ≡ do_overlap ts u t
overlap-sym ts t u =
    ap (λ b. b || do_meet (possible_names ts t) (possible_names ts u)) (names-sym (name_of_meta t) (name_of_meta u))
    ∙ ap (λ b. have_one_name u t || b) (meet-sym (possible_names ts t) (possible_names ts u))

pub weaker-all : {A : Type 0} (p q : A → Bool) → ((x : A) → p x ≡ true → q x ≡ true) → (xs : List A) → list_all p xs ≡ true → list_all q xs ≡ true
weaker-all p q f [] h = refl
weaker-all p q f (x ∷ xs) h =
    let parts = and_parts (p x) (list_all p xs) h in
    and_from (q x) (list_all q xs) (f x parts.0) (weaker-all p q f xs parts.1)

module _ {T : Type 0} (name_of : T → Option (List ℕ)) where
  find_named : List T → List ℕ → Option T
  find_named ts n = find (is_called name_of n) ts

  called-itself : (t : T) (n : List ℕ) → name_of t ≡ Some n → is_called name_of n t ≡ true
  called-itself t n e = rw e ((bytes_eq-Decides n n).1 refl)

  later : (t : T) (ts : List T) (n : List ℕ) (b : Bool) → is_called name_of n t ≡ b → are_distinct name_of (t ∷ ts) ≡ true → is_any_called name_of ts n ≡ true → find_named (t ∷ ts) n ≡ find_named ts n
  unfolding find_named
  later t ts n true e h k = let none : is_any_called name_of ts n ≡ false = first-alone name_of t ts n h e in cc
  later t ts n false e h k = ap (λ c. cond c (Some t) (find (is_called name_of n) ts)) e

  later-all : (t : T) (ts : List T) → are_distinct name_of (t ∷ ts) ≡ true → (ns : List (List ℕ)) → list_all (is_any_called name_of ts) ns ≡ true → filter_map (find_named (t ∷ ts)) ns ≡ filter_map (find_named ts) ns
  later-all t ts h [] k = refl
  later-all t ts h (n ∷ ns) k =
      let parts = and_parts (is_any_called name_of ts n) (list_all (is_any_called name_of ts) ns) k in
      let first = later t ts n (is_called name_of n t) refl h parts.0 in
      let rest = later-all t ts h ns parts.1 in
      λ i. cons_option (first i) (rest i)

  module _ (p : T → Bool) where
    called_here : (o : Option (List ℕ)) (t : T) (ts : List T) → name_of t ≡ o → list_all (is_any_called name_of (t ∷ ts)) (filter_map name_of (filter p ts)) ≡ true → list_all (is_any_called name_of (t ∷ ts)) (cons_option o (filter_map name_of (filter p ts))) ≡ true
    called_here None t ts e h = h
    called_here (Some n) t ts e h = and_from (is_any_called name_of (t ∷ ts) n) (list_all (is_any_called name_of (t ∷ ts)) (filter_map name_of (filter p ts))) (or_left (is_called name_of n t) (is_any_called name_of ts n) (called-itself t n e)) h

    called_step : (b : Bool) (t : T) (ts : List T) → list_all (is_any_called name_of (t ∷ ts)) (filter_map name_of (filter p ts)) ≡ true → list_all (is_any_called name_of (t ∷ ts)) (filter_map name_of (cond b (t ∷ filter p ts) (filter p ts))) ≡ true
    called_step true t ts h = called_here (name_of t) t ts refl h
    called_step false t ts h = h

    -- the names of what passes a test are names of the list
    pub passing-called : (ts : List T) → list_all (is_any_called name_of ts) (filter_map name_of (filter p ts)) ≡ true
    passing-called [] = refl
    passing-called (t ∷ ts) =
        called_step (p t) t ts
        (weaker-all (is_any_called name_of ts) (is_any_called name_of (t ∷ ts)) (λ n h. or_right (is_called name_of n t) (is_any_called name_of ts n) h) (filter_map name_of (filter p ts)) (passing-called ts))

    refound_here : (o : Option (List ℕ)) (t : T) (ts : List T) → name_of t ≡ o → is_some o ≡ true → are_distinct name_of (t ∷ ts) ≡ true → filter_map (find_named ts) (filter_map name_of (filter p ts)) ≡ filter p ts
        → filter_map (find_named (t ∷ ts)) (cons_option o (filter_map name_of (filter p ts))) ≡ t ∷ filter p ts
    unfolding find_named
    refound_here None t ts e s h k = cc
    refound_here (Some n) t ts e s h k =
        let first : find_named (t ∷ ts) n ≡ Some t = ap (λ c. cond c (Some t) (find (is_called name_of n) ts)) (called-itself t n e) in
        let rest = later-all t ts h (filter_map name_of (filter p ts)) (passing-called ts) ∙ k in
        λ i. cons_option (first i) (rest i)

    refound_step : (b : Bool) (t : T) (ts : List T) → is_some (name_of t) ≡ true → are_distinct name_of (t ∷ ts) ≡ true → filter_map (find_named ts) (filter_map name_of (filter p ts)) ≡ filter p ts
        → filter_map (find_named (t ∷ ts)) (filter_map name_of (cond b (t ∷ filter p ts) (filter p ts))) ≡ cond b (t ∷ filter p ts) (filter p ts)
    refound_step true t ts s h k = refound_here (name_of t) t ts refl s h k
    refound_step false t ts s h k = later-all t ts h (filter_map name_of (filter p ts)) (passing-called ts) ∙ k

    refound_all : (ts : List T) → are_named name_of ts ≡ true → are_distinct name_of ts ≡ true → filter_map (find_named ts) (filter_map name_of (filter p ts)) ≡ filter p ts
    refound_all [] s h = refl
    refound_all (t ∷ ts) s h =
        let named = and_parts (is_some (name_of t)) (are_named name_of ts) s in
        let distinct = and_parts (option_map_or (λ k. not (is_any_called name_of ts k)) (name_of t) true) (are_distinct name_of ts) h in
        refound_step (p t) t ts named.0 h (refound_all ts named.1 distinct.1)

    -- what passes a test is found again by its name
    pub refound : (ts : List T) → are_named name_of ts ≡ true → are_distinct name_of ts ≡ true → filter p ts ≡ filter_map (λ n. find (is_called name_of n) ts) (filter_map name_of (filter p ts))
    unfolding find_named
    refound ts s h = sym (refound_all ts s h)

  names_step : (ts : List T) (n : List ℕ) (o : Option T) (rest : List T) → find_named ts n ≡ o → is_some o ≡ true → map name_of (cons_option o rest) ≡ Some n ∷ map name_of rest
  unfolding find_named
  names_step ts n None rest e h = cc
  names_step ts n (Some t) rest e h = ap (λ k. k ∷ map name_of rest) (name_is (name_of t) refl (found-passes (is_called name_of n) ts t (sym e)))
    where
      name_is : (o : Option (List ℕ)) → name_of t ≡ o → option_map_or (λ k. bytes_eq k n) o false ≡ true → o ≡ Some n
      name_is None q k = cc
      name_is (Some w) q k = ap (λ x. Some x) ((bytes_eq-Decides w n).0 k)

  names_all : (ts : List T) (ns : List (List ℕ)) → list_all (is_any_called name_of ts) ns ≡ true → map name_of (filter_map (find_named ts) ns) ≡ map (λ n. Some n) ns
  unfolding find_named
  names_all ts [] h = refl
  names_all ts (n ∷ ns) h =
      let parts = and_parts (is_any_called name_of ts n) (list_all (is_any_called name_of ts) ns) h in
      names_step ts n (find_named ts n) (filter_map (find_named ts) ns) refl (find-called name_of ts n parts.0)
      ∙ ap (λ l. Some n ∷ l) (names_all ts ns parts.1)

  -- what is found by names has these names
  pub names-found : (ts : List T) (ns : List (List ℕ)) → list_all (is_any_called name_of ts) ns ≡ true → map name_of (filter_map (λ n. find (is_called name_of n) ts) ns) ≡ map (λ n. Some n) ns
  unfolding find_named
  names-found ts ns h = names_all ts ns h

-- a test of all parts of a list, at one of its elements
all-in-part : {A B : Type 0} (p : B → Bool) (f : A → List B) (xs : List A) (i : ℕ) (d x : A) → i < length xs → get_or xs i d ≡ x → list_all p (flat_map f xs) ≡ true → list_all p (f x) ≡ true
all-in-part p f [] i d x h e k = absurd (omega arith)
all-in-part p f (y ∷ ys) zero d x h e k = subst (λ w. list_all p (f w) ≡ true) e (all-front p (f y) (flat_map f ys) k)
all-in-part p f (y ∷ ys) (suc i) d x h e k = all-in-part p f ys i d x (omega arith) e (all-back p (f y) (flat_map f ys) k)

-- the elements behind references, seen by a function
pub map-now : {A B : Type 0} (f : A → B) (rs : List (Bor A)) → map (λ r. f r.now) rs ≡ map f (map (λ r. r.now) rs)
map-now f [] = refl
map-now f (r ∷ rs) = ap (λ l. f r.now ∷ l) (map-now f rs)

module _ {S C : Type 0} (c : Catalog S C) where
  -- each type that an interface or a union of the schema may be is listed
  pub possible-listed : (t : MetaTypeOf S C) (n : List ℕ) → is_abstract_meta t ≡ true → type_in n c ≡ Some t → list_all (is_listed c.types) (possible_names c.types t) ≡ true
  possible-listed (k.Union x) n a e =
      let at = found-among (is_named n) c.types (k.Union x) (sym e) in
      all-in-part (is_listed c.types) members_of c.types at.0 (k.Union x) (k.Union x) at.1 at.2 (all-members (is_listed c.types) c.types c.accepted.names_listed)
  possible-listed (k.Interface x) n a e = passing-called name_of_meta (is_implementer (string_bytes x.name)) c.types
  possible-listed _ n a e = cc

  pub possible-names : (t : MetaTypeOf S C) (n : List ℕ) (rs : List (Bor (MetaTypeOf S C))) → is_abstract_meta t ≡ true → type_in n c ≡ Some t → map (λ r. r.now) rs ≡ types_named c.types (possible_names c.types t) → map (λ r. name_of_meta r.now) rs ≡ map (λ w. Some w) (possible_names c.types t)
  possible-names t n rs a e h =
      map-now name_of_meta rs ∙ ap (map name_of_meta) h ∙ names-found name_of_meta c.types (possible_names c.types t) (possible-listed t n a e)

nil-option : {A : Type 0} (o : Option A) → cons_option o [] ≡ option_to_list o
nil-option None = refl
nil-option (Some x) = refl

-- one name more
pub named_more : {S C : Type 0} (ts : List (MetaTypeOf S C)) (names : List (String Global)) (i : ℕ) (name : String Global) → i < length names → name ≡ get_or names i name
    → types_named ts (map string_bytes (take (i + 1) names)) ≡ types_named ts (map string_bytes (take i names)) ++ option_to_list (find (is_named (string_bytes name)) ts)
named_more ts names i name h e =
    ap (λ l. types_named ts (map string_bytes l)) (take_more names i name h ∙ ap (λ y. take i names ++ y ∷ []) (sym e))
    ∙ ap (types_named ts) (map-append string_bytes (take i names) (name ∷ []))
    ∙ filter_map-append (λ n. find (is_named n) ts) (map string_bytes (take i names)) (string_bytes name ∷ [])
    ∙ ap (λ l. types_named ts (map string_bytes (take i names)) ++ l) (nil-option (find (is_named (string_bytes name)) ts))
