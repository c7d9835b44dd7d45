-- Nothing repeats if and only if the names are distinct. In specs/, since ghost members of an impl cite nothing else.
use Rattle.std.proofs.Common.{◌≡◌, ◌↔◌, ℕ, List, [], ◌∷◌, ◌++◌, map, refl, ap, sym, ◌∙◌, subst}
use Rattle.std.specs.Prelude.{Bool, true, false, not, ◌&&◌, ◌||◌, Option, Some, None, is_none, String, string_bytes}
use Rattle.std.specs.Prelude.{if◌then◌else◌, nat_eq}
use Rattle.std.specs.declared.alloc.Global.{Global}
use Rattle.std.specs.Cmp.Lexicographic.{pointwise}
use Rattle.std.specs.List.{list_all, list_any}
use Rattle.std.specs.Str.{bytes_eq}
use Rattle.language_values.specs.ValuesEqual.{are_distinct}
use Rattle.language_types.specs.declared.position.SourcePosition.{SourcePosition}
use Rattle.events.specs.Node.{Node, Name, Placed}
use Rattle.events.specs.Occurrence.{occurrences}
use Rattle.walk.specs.ErrorValue.{ErrorValue}
use Rattle.walk.specs.Rule.{SilentIff, always, exactly}
use Rattle.walk.specs.RuleLaws.{exactly_silent}
use Rattle.rules_support.specs.Names.{Named, text_name, key_name}
use Rattle.rules_support.specs.Noting.{or_else, names_at, repeated, HasDistinctNames}
use Rattle.rules_support.specs.NotingLaws.{first_place-more}
use Rattle.rules_support.specs.Repeats.{first_place, repeat_at, repeats_after, repeats}

map_map : {X Y Z : Type 0} (f : Y → Z) (g : X → Y) (xs : List X) → map f (map g xs) ≡ map (λ x. f (g x)) xs
map_map f g [] = refl
map_map f g (x ∷ xs) = ap (λ z. f (g x) ∷ z) (map_map f g xs)

abbrev is_nothing : {R : Type 0} → List R → Bool
is_nothing [] = true
is_nothing (r ∷ rs) = false

nothing_is : {R : Type 0} (rs : List R) → (rs ≡ []) ↔ (is_nothing rs ≡ true)
nothing_is [] = (λ e. refl, λ e. refl)
nothing_is (r ∷ rs) = (λ e. absurd cc, λ e. absurd cc)

-- no earlier name is this one
abbrev is_new : List Named → Named → Bool
is_new earlier n = is_none (first_place earlier n.0)

abbrev names_of : List Named → List (List ℕ)
names_of names = map (λ n. n.0) names

nothing_first : (message : List ℕ → List ℕ) (o : Option SourcePosition) (n : Named) (es : List ErrorValue)
    → is_nothing (repeat_at message o n ++ es) ≡ (is_none o && is_nothing es)
nothing_first message None n es = refl
nothing_first message (Some first) n es = refl

none_noted : (o : Option SourcePosition) (b : Bool) (place : SourcePosition)
    → is_none (or_else o (if b then Some place else None)) ≡ (is_none o && not b)
none_noted None true place = refl
none_noted None false place = refl
none_noted (Some p) b place = refl

sort_out : (a b c d : Bool) → ((a && not b) && (c && not d)) ≡ ((a && c) && not (b || d))
sort_out false b c d = refl
sort_out true true true d = refl
sort_out true true false d = refl
sort_out true false c d = refl

reorder : (a b c d : Bool) → (a && ((b && c) && d)) ≡ ((a && b) && (c && d))
reorder false b c d = refl
reorder true false c d = refl
reorder true true c d = refl

-- names are new after one more if they were, and are not that one
new_after : (earlier : List Named) (n : Named) (rest : List Named)
    → list_all (is_new (earlier ++ n ∷ [])) rest ≡ (list_all (is_new earlier) rest && not (list_any (pointwise nat_eq n.0) (names_of rest)))
new_after earlier n [] = refl
new_after earlier n (m ∷ rest) =
    ap (λ z. is_none z && list_all (is_new (earlier ++ n ∷ [])) rest) (sym (first_place-more earlier n m.0))
    ∙ ap (λ z. z && list_all (is_new (earlier ++ n ∷ [])) rest) (none_noted (first_place earlier m.0) (bytes_eq n.0 m.0) n.1)
    ∙ ap (λ z. (is_new earlier m && not (bytes_eq n.0 m.0)) && z) (new_after earlier n rest)
    ∙ sort_out (is_new earlier m) (bytes_eq n.0 m.0) (list_all (is_new earlier) rest) (list_any (pointwise nat_eq n.0) (names_of rest))

none_repeats_after : (message : List ℕ → List ℕ) (earlier names : List Named)
    → is_nothing (repeats_after message earlier names) ≡ (list_all (is_new earlier) names && are_distinct (names_of names))
none_repeats_after message earlier [] = refl
none_repeats_after message earlier (n ∷ rest) =
    nothing_first message (first_place earlier n.0) n (repeats_after message (earlier ++ n ∷ []) rest)
    ∙ ap (λ z. is_new earlier n && z)
    (none_repeats_after message (earlier ++ n ∷ []) rest ∙ ap (λ z. z && are_distinct (names_of rest)) (new_after earlier n rest))
    ∙ reorder (is_new earlier n) (list_all (is_new earlier) rest)
    (not (list_any (pointwise nat_eq n.0) (names_of rest))) (are_distinct (names_of rest))

all_new : (names : List Named) → list_all (is_new []) names ≡ true
all_new [] = refl
all_new (n ∷ rest) = all_new rest

-- no name stands again if and only if all are distinct
pub none_repeats : (message : List ℕ → List ℕ) (names : List Named) → (repeats message names ≡ [])
    ↔ (are_distinct (map (λ n. n.0) names) ≡ true)
none_repeats message names =
    let is = nothing_is (repeats message names) in
    let same : is_nothing (repeats message names) ≡ are_distinct (names_of names) =
    none_repeats_after message [] names ∙ ap (λ z. z && are_distinct (names_of names)) (all_new names) in
    (λ e. sym same ∙ is.0 e, λ e. is.1 (same ∙ e))

-- the same of entries that have a name first, and of entries of an object
pub none_repeat_in : {T : Type 0} (message : List ℕ → List ℕ) (entries : List (Name × T))
    → (repeats message (map text_name entries) ≡ []) ↔ (are_distinct (map (λ e. e.0.item.now) entries) ≡ true)
none_repeat_in message entries =
    subst (λ z. (repeats message (map text_name entries) ≡ []) ↔ (are_distinct z ≡ true))
    (map_map (λ n. n.0) text_name entries) (none_repeats message (map text_name entries))

pub none_repeat_of : {T : Type 0} (message : List ℕ → List ℕ) (entries : List (Placed (String Global) × T))
    → (repeats message (map key_name entries) ≡ []) ↔ (are_distinct (map (λ e. string_bytes e.0.item) entries) ≡ true)
none_repeat_of message entries =
    subst (λ z. (repeats message (map key_name entries) ≡ []) ↔ (are_distinct z ≡ true))
    (map_map (λ n. n.0) key_name entries) (none_repeats message (map key_name entries))

-- a rule that notes names reports nothing where those at the nodes are distinct
pub repeated_silent : {S C V : Type 0} (message : List ℕ → List ℕ) (name : Node S → Option Named)
    → SilentIff {S = S} {C = C} {V = V} (always (exactly (repeated message name))) (HasDistinctNames name)
repeated_silent {S} {C} message name end scope t doc es p =
    let whole = exactly_silent (repeated message name) end scope t doc es p in
    let at = none_repeats message (names_at {C = C} name (occurrences scope.schema t doc)) in
    (λ e. at.0 (whole.0 e), λ e. whole.1 (at.1 e))
