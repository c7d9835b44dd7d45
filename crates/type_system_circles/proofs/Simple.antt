-- Links of which no two are from one node.
use Rattle.std.proofs.Common.{◌≡◌, ℕ, ◌+◌, ◌<◌, List, [], ◌∷◌, ◌++◌, length, map, take, drop, sym, subst, ap, arith, inl, inr, ◌⊎◌, zero, suc, Some, slice_get, ◌∙◌, append_assoc}
use Rattle.std.specs.Option.{option_map}
use Rattle.std.proofs.lemmas.List.{map_push, take-append-drop}
use Rattle.std.proofs.lemmas.Option.{slice_get-map, slice_get_within}
use Rattle.fragment_graph.proofs.Lists.{get_more}
use Rattle.type_system_circles.specs.declared.graph.Link.{Link}
use Rattle.type_system_circles.specs.Graph.{IsSimple}
use Rattle.type_system_circles.specs.Sound.{path_to}

get_later : {X : Type 0} (xs ys : List X) (j : ℕ) (x : X) → slice_get ys j ≡ Some x → slice_get (xs ++ ys) (length xs + j) ≡ Some x
get_later [] ys j x h = subst (λ (k : ℕ). slice_get ys k ≡ Some x) (omega arith) h
get_later (z ∷ xs) ys j x h =
    let next : suc (length xs + j) ≡ length (z ∷ xs) + j = omega arith in
    subst (λ (k : ℕ). slice_get (z ∷ xs ++ ys) k ≡ Some x) next (get_later xs ys j x h)

get_either : {X : Type 0} (xs ys : List X) (k : ℕ) (x : X) → slice_get (xs ++ ys) k ≡ Some x
    → (slice_get xs k ≡ Some x) ⊎ ((j : ℕ) × (k ≡ length xs + j) × (slice_get ys j ≡ Some x))
get_either [] ys k x h = inr (k, omega arith, h)
get_either (z ∷ xs) ys zero x h = inl h
get_either (z ∷ xs) ys (suc k) x h = elim (get_either xs ys k x h) [
  | inl front ↦ inl front
  | inr rest ↦ inr (rest.0, let e : k ≡ length xs + rest.0 = rest.1 in omega (arith, e), rest.2)
]

swapped : (xs ys : List Link) → IsSimple (xs ++ ys) → IsSimple (ys ++ xs)
swapped xs ys h i j a b at_i at_j same = elim (get_either ys xs i a at_i) [
  | inl one ↦ elim (get_either ys xs j b at_j) [
    | inl two ↦
        let e : length xs + i ≡ length xs + j = h (length xs + i) (length xs + j) a b (get_later xs ys i a one) (get_later xs ys j b two) same in
        omega (arith, e)
    | inr two ↦
        let e : length xs + i ≡ two.0 = h (length xs + i) two.0 a b (get_later xs ys i a one) (get_more xs ys two.0 b two.2) same in
        let room : two.0 < length xs = slice_get_within xs two.0 b two.2 in
        absurd (omega (arith, e, room))
  ]
  | inr one ↦ elim (get_either ys xs j b at_j) [
    | inl two ↦
        let e : one.0 ≡ length xs + j = h one.0 (length xs + j) a b (get_more xs ys one.0 a one.2) (get_later xs ys j b two) same in
        let room : one.0 < length xs = slice_get_within xs one.0 a one.2 in
        absurd (omega (arith, e, room))
    | inr two ↦
        let e : one.0 ≡ two.0 = h one.0 two.0 a b (get_more xs ys one.0 a one.2) (get_more xs ys two.0 b two.2) same in
        let first : i ≡ length ys + one.0 = one.1 in
        let second : j ≡ length ys + two.0 = two.1 in
        omega (arith, e, first, second)
  ]
]

-- the same links from another one on
pub simple_turned : (i : ℕ) (ls ms : List Link) → ms ≡ drop i ls ++ take i ls → IsSimple ls → IsSimple ms
simple_turned i ls ms e h = subst IsSimple (sym e) (swapped (take i ls) (drop i ls) (subst IsSimple (sym (take-append-drop i ls)) h))

rest_simple : (xs ys : List Link) → IsSimple (xs ++ ys) → IsSimple ys
rest_simple xs ys h i j a b at_i at_j same =
    let e : length xs + i ≡ length xs + j = h (length xs + i) (length xs + j) a b (get_later xs ys i a at_i) (get_later xs ys j b at_j) same in
    omega (arith, e)

-- the last links of a way on which no node stands twice
pub simple_end : (trail : List Link) (u : ℕ) (l : Link) (depth : ℕ) (links : List Link) → l.from ≡ u
    → ((i j v : ℕ) → slice_get (path_to trail u) i ≡ Some v → slice_get (path_to trail u) j ≡ Some v → i ≡ j)
    → links ≡ drop depth trail ++ l ∷ [] → IsSimple links
simple_end trail u l depth links from once is =
    let way : List Link = trail ++ l ∷ [] in
    let nodes : map (λ (x : Link). x.from) way ≡ path_to trail u =
    map_push (λ (x : Link). x.from) trail l ∙ ap (λ (n : ℕ). map (λ (x : Link). x.from) trail ++ n ∷ []) from in
    let at : (i : ℕ) (a : Link) → slice_get way i ≡ Some a → slice_get (path_to trail u) i ≡ Some a.from = λ (i : ℕ) (a : Link) (g : slice_get way i ≡ Some a).
    ap (λ (ns : List ℕ). slice_get ns i) (sym nodes) ∙ slice_get-map (λ (x : Link). x.from) way i ∙ ap (λ o. option_map (λ (x : Link). x.from) o) g in
    let whole : IsSimple way = λ i j a b at_i at_j same. once i j b.from (at i a at_i ∙ ap Some same) (at j b at_j) in
    let split : take depth trail ++ (drop depth trail ++ l ∷ []) ≡ way = sym (append_assoc (take depth trail) (drop depth trail) (l ∷ [])) ∙ ap (λ (xs : List Link). xs ++ l ∷ []) (take-append-drop depth trail) in
    subst IsSimple (sym is) (rest_simple (take depth trail) (drop depth trail ++ l ∷ []) (subst IsSimple (sym split) whole))
