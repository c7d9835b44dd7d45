-- Places of names: as they are listed, sorted and searched.
use Rattle.std.proofs.Common.{◌≡◌, ℕ, suc, ◌+◌, ◌<◌, ◌≤◌, List, [], ◌∷◌, ◌++◌, Bool, true, false, not, ◌&&◌, cond, Option, Some, None, length, map, take, drop, drop-cons, get_or, Bor, refl, ap, sym, ◌∙◌, subst, arith}
use Rattle.std.specs.Prelude.{find, option_map}
use Rattle.std.specs.Cmp.{IsStrictWeakOrder}
use Rattle.std.specs.Cmp.Lexicographic.{slice_cmp, nat_list_cmp_total, nat_list_eq_equiv}
use Rattle.std.specs.declared.cmp.Ordering.{Ordering}
use Rattle.std.specs.declared.cmp.Ordering.TheVariants.{Less, Equal, Greater}
use Rattle.std.specs.Fn.{Called, ComputesKey}
use Rattle.std.specs.List.{All, filter, slice_get}
use Rattle.std.specs.List.Sorted.{IsStableBy, IsPartitionPoint, IsPartitionedBy, ties}
use Rattle.std.specs.Option.{option_and_then, option_or}
use Rattle.std.specs.Ordering.{is_eq, is_lt, nat_cmp, ordering_reverse}
use Rattle.std.specs.Str.{bytes_eq}
use Rattle.std.proofs.lemmas.List.{length-take, length-drop, get_or_default, get_or-take, get_or-drop, take-append-drop, take_more}
use Rattle.std.proofs.lemmas.List.Elements.{All-head, All-tail, filter_agree}
use Rattle.std.proofs.lemmas.List.Folds.{find-append}
use Rattle.std.proofs.lemmas.List.Sorted.{IsPartitionPoint-from_clause, ranks_by, sorted_far}
use Rattle.std.proofs.lemmas.Map.Text.{is_eq-slice_cmp}
use Rattle.std.proofs.lemmas.Slice.Eq.{bytes_eq-Decides}
use denote.Param.Members.{Mut}
use Rattle.meta.specs.Places.{AreAscending, IsFirst, StandFirst, first_place, is_at, is_below, name_at}

first_of_one : (b : Bool) → cond {A = Option ℕ} b (Some 0) None ≡ option_or None (cond b (Some 0) None)
first_of_one b = refl

first_step : (b c : Bool) (o : Option ℕ) (n : ℕ) → cond b (Some 0) (option_map suc (option_or o (cond c (Some n) None))) ≡ option_or (cond b (Some 0) (option_map suc o)) (cond c (Some (suc n)) None)
first_step true c o n = refl
first_step false c (Some i) n = refl
first_step false true None n = refl
first_step false false None n = refl

first-append : (name : List ℕ) (ns : List (List ℕ)) (n : List ℕ) → first_place name (ns ++ n ∷ []) ≡ option_or (first_place name ns) (cond (bytes_eq n name) (Some (length ns)) None)
first-append name [] n = first_of_one (bytes_eq n name)
first-append name (m ∷ ns) n =
    ap (λ o. cond (bytes_eq m name) (Some 0) (option_map suc o)) (first-append name ns n) ∙ first_step (bytes_eq m name) (bytes_eq n name) (first_place name ns) (length ns)

-- one place more is listed
pub listed_more : (names : List (List ℕ)) (name : List ℕ) (places : List ℕ) (i : ℕ) → i < length names → find (is_at names name) places ≡ first_place name (take i names)
    → find (is_at names name) (places ++ i ∷ []) ≡ first_place name (take (i + 1) names)
listed_more names name places i here so_far =
    let long = length-take i names in
    let same : length (take i names) ≡ i = omega (arith, long, here) in
    find-append (is_at names name) places (i ∷ [])
    ∙ ap (λ o. option_or o (cond (is_at names name i) (Some i) None)) so_far
    ∙ ap (λ n. option_or (first_place name (take i names)) (cond (is_at names name i) (Some n) None)) (sym same)
    ∙ sym (first-append name (take i names) (get_or names i []))
    ∙ ap (first_place name) (sym (take_more names i [] here))

module _ {X : Type 0} (p : X → Bool) where
  head_step : (b : Bool) (x : X) (o : Option X) (xs : List X) → o ≡ slice_get xs 0 → cond b (Some x) o ≡ slice_get (cond b (x ∷ xs) xs) 0
  head_step true x o xs h = refl
  head_step false x o xs h = h

  found_is_head : (xs : List X) → find p xs ≡ slice_get (filter p xs) 0
  found_is_head [] = refl
  found_is_head (x ∷ xs) = head_step (p x) x (find p xs) (filter p xs) (found_is_head xs)

  passes_step : (b : Bool) (x a : X) (r : Option X) → p x ≡ b → cond b (Some x) r ≡ Some a → (r ≡ Some a → p a ≡ true) → p a ≡ true
  passes_step true x a r e h k = let same : a ≡ x = cc in ap p same ∙ e
  passes_step false x a r e h k = k h

  found_passes : (xs : List X) (a : X) → find p xs ≡ Some a → p a ≡ true
  found_passes [] a h = cc
  found_passes (x ∷ xs) a h = passes_step (p x) x a (find p xs) refl h (found_passes xs a)

  none_step : (b : Bool) (x : X) (o : Option X) → b ≡ false → o ≡ None → cond b (Some x) o ≡ None
  none_step true x o e h = cc
  none_step false x o e h = h

  none_found : (xs : List X) → All (λ x. p x ≡ false) xs → find p xs ≡ None
  none_found [] h = refl
  none_found (x ∷ xs) h = none_step (p x) x (find p xs) (All-head (λ y. p y ≡ false) x xs h) (none_found xs (All-tail (λ y. p y ≡ false) x xs h))

  module _ (lt : X → X → Bool) (tie : (x y : X) → p x ≡ true → ties lt x y ≡ p y) (xs ys : List X) (stable : IsStableBy lt xs ys) where
    same_by : (x : X) → p x ≡ true → find p ys ≡ find p xs
    same_by x h =
        found_is_head ys
        ∙ ap (λ l. slice_get l 0) (sym (filter_agree (ties lt x) p (λ y. tie x y h) ys) ∙ stable x ∙ filter_agree (ties lt x) p (λ y. tie x y h) xs)
        ∙ sym (found_is_head xs)

    same_cases : (o q : Option X) → find p ys ≡ o → find p xs ≡ q → find p ys ≡ find p xs
    same_cases (Some y) q e f = same_by y (found_passes ys y e)
    same_cases None (Some x) e f = same_by x (found_passes xs x f)
    same_cases None None e f = e ∙ sym f

    -- a stable sort finds the same first
    same_found : find p ys ≡ find p xs
    same_found = same_cases (find p ys) (find p xs) refl refl

tie_by : (r s : Ordering) → s ≡ ordering_reverse r → (not (is_lt r) && not (is_lt s)) ≡ is_eq r
tie_by Less s h = refl
tie_by Equal s h = ap (λ t. not (is_lt t)) h
tie_by Greater s h = ap (λ t. not (is_lt t)) h

tie_is_equal : (m n : List ℕ) → (not (is_lt (slice_cmp nat_cmp m n)) && not (is_lt (slice_cmp nat_cmp n m))) ≡ bytes_eq m n
tie_is_equal m n = tie_by (slice_cmp nat_cmp m n) (slice_cmp nat_cmp n m) (nat_list_cmp_total.antisymm n m) ∙ is_eq-slice_cmp m n

-- two places tie where their names are the same
tied : (names : List (List ℕ)) (name : List ℕ) (i j : ℕ) → is_at names name i ≡ true → ties (is_below names) i j ≡ is_at names name j
tied names name i j h =
    tie_is_equal (name_at names i) (name_at names j) ∙ nat_list_eq_equiv.congr (name_at names i) name (name_at names j) h ∙ nat_list_eq_equiv.symm name (name_at names j)

pub below_orders : (names : List (List ℕ)) → IsStrictWeakOrder (is_below names)
below_orders names = ranks_by nat_list_cmp_total (name_at names)

-- a stable sort by the names keeps each name's first place
pub stays_first : (names : List (List ℕ)) (xs ys : List ℕ) → IsStableBy (is_below names) xs ys → StandFirst names xs → StandFirst names ys
stays_first names xs ys stable first name = same_found (is_at names name) (is_below names) (tied names name) xs ys stable ∙ first name

-- Where a name is looked for among ascending places.
module _ (names : List (List ℕ)) (name : List ℕ) where
  abbrev pub is_less : ℕ → Bool
  is_less i = is_lt (slice_cmp nat_cmp (name_at names i) name)

  by_words : IsStrictWeakOrder (λ (m n : List ℕ). is_lt (slice_cmp nat_cmp m n))
  by_words = ranks_by nat_list_cmp_total (λ (n : List ℕ). n)

  never_false : (b : Bool) → (b ≡ false → ⊥) → b ≡ true
  never_false true h = refl
  never_false false h = absurd (h refl)

  never_true : (b : Bool) → (b ≡ true → ⊥) → b ≡ false
  never_true true h = absurd (h refl)
  never_true false h = refl

  parted : (places : List ℕ) → AreAscending names places → IsPartitionedBy is_less places
  parted places up i j d le lt e =
      never_false (is_less (get_or places i d))
      (λ f. let g = by_words.chain (name_at names (get_or places j d)) (name_at names (get_or places i d)) name (sorted_far (is_below names) (below_orders names) places up i j d le lt) f in cc)

  -- where a search ends whose closure picks the lesser names
  pub point_of : {F : Type 0} {g : Mut F (Bor ℕ × Unit {0}) Bool} {f : F} (places : List ℕ) (i : ℕ)
      → ((q : ℕ → Bool) → ComputesKey g q f → IsPartitionedBy q places → IsPartitionPoint (λ y. q y ≡ true) (λ y. q y ≡ false) places i)
      → AreAscending names places → ((a : Bor ℕ × Unit {0}) (r : Bool) (f' : F) → Called g f a r f' → (r ≡ is_less a.0.now) × (f' ≡ f))
      → IsPartitionPoint (λ y. is_less y ≡ true) (λ y. is_less y ≡ false) places i
  point_of places i clause up calls = IsPartitionPoint-from_clause is_less places i clause (parted places up) calls

  less_not_equal : (r : Ordering) → is_lt r ≡ true → is_eq r ≡ false
  less_not_equal Less h = refl
  less_not_equal Equal h = cc
  less_not_equal Greater h = refl

  module _ (places : List ℕ) (at : ℕ) (up : AreAscending names places) (first : StandFirst names places) (point : IsPartitionPoint (λ i. is_less i ≡ true) (λ i. is_less i ≡ false) places at) where
    before : All (λ i. is_at names name i ≡ false) (take at places)
    before k d l =
        let long = length-take at places in
        let p : k < at = omega (arith, long, l) in
        subst (λ i. is_at names name i ≡ false) (sym (get_or-take at places k d p))
        (sym (is_eq-slice_cmp (name_at names (get_or places k d)) name) ∙ less_not_equal (slice_cmp nat_cmp (name_at names (get_or places k d)) name) (point.0 k d (omega arith) p))

    from_point : first_place name names ≡ find (is_at names name) (drop at places)
    from_point =
        sym (first name) ∙ ap (find (is_at names name)) (sym (take-append-drop at places)) ∙ find-append (is_at names name) (take at places) (drop at places)
        ∙ ap (λ o. option_or o (find (is_at names name) (drop at places))) (none_found (is_at names name) (take at places) before)

    -- no place is left
    pub none_left : length places ≤ at → first_place name names ≡ None
    none_left over = from_point ∙ none_found (is_at names name) (drop at places) (λ k d l. let rest = length-drop at places in absurd (omega (arith, rest, l, over)))

    -- the name is at the index
    pub found_there : (y : ℕ) → at < length places → get_or places at y ≡ y → is_at names name y ≡ true → first_place name names ≡ Some y
    found_there y here is same =
        from_point ∙ ap (find (is_at names name)) (drop-cons places at y here ∙ ap (λ z. z ∷ drop (suc at) places) is)
        ∙ ap (λ b. cond b (Some y) (find (is_at names name) (drop (suc at) places))) same

    not_again : (y z : ℕ) → is_less y ≡ false → is_below names z y ≡ false → is_at names name y ≡ false → is_at names name z ≡ true → ⊥
    not_again y z high after other again =
        let same : name_at names z ≡ name = (bytes_eq-Decides (name_at names z) name).0 again in
        let low : is_lt (slice_cmp nat_cmp name (name_at names y)) ≡ false = subst (λ n. is_lt (slice_cmp nat_cmp n (name_at names y)) ≡ false) same after in
        let equal = tie_is_equal (name_at names y) name in
        let both : (not (is_lt (slice_cmp nat_cmp (name_at names y) name)) && not (is_lt (slice_cmp nat_cmp name (name_at names y)))) ≡ true = (λ i. not (high i) && not (low i)) in
        cc

    -- another name is there
    pub other_there : (y : ℕ) → at < length places → get_or places at y ≡ y → is_at names name y ≡ false → first_place name names ≡ None
    other_there y here is other =
        from_point
        ∙ none_found (is_at names name) (drop at places)
        (λ k d l.
        let rest = length-drop at places in
        let inside : at + k < length places = omega (arith, rest, l) in
        let high : is_less y ≡ false = subst (λ i. is_less i ≡ false) is (point.1 at y (omega arith) here) in
        let after : is_below names (get_or places (at + k) y) y ≡ false = subst (λ i. is_below names (get_or places (at + k) y) i ≡ false) is (sorted_far (is_below names) (below_orders names) places up at (at + k) y (omega arith) inside) in
        subst (λ i. is_at names name i ≡ false) (sym (get_or-drop at places k d))
        (never_true (is_at names name (get_or places (at + k) d)) (λ again. not_again y (get_or places (at + k) d) high (subst (λ z. is_below names z y ≡ false) (get_or_default places (at + k) y d inside) after) other again)))

named_step : (b : Bool) (n name : List ℕ) (ns : List (List ℕ)) (o : Option ℕ) (i : ℕ) → bytes_eq n name ≡ b → ((j : ℕ) → o ≡ Some j → name_at ns j ≡ name)
    → cond b (Some 0) (option_map suc o) ≡ Some i → name_at (n ∷ ns) i ≡ name
named_step true n name ns o i e k h = let first : 0 ≡ i = cc in subst (λ (x : ℕ). name_at (n ∷ ns) x ≡ name) first ((bytes_eq-Decides n name).0 e)
named_step false n name ns (Some j) i e k h = let next : suc j ≡ i = cc in subst (λ (x : ℕ). name_at (n ∷ ns) x ≡ name) next (k j refl)
named_step false n name ns None i e k h = cc

-- at the first place of a name stands that name
named_there : (names : List (List ℕ)) (name : List ℕ) (i : ℕ) → first_place name names ≡ Some i → name_at names i ≡ name
named_there [] name i h = cc
named_there (n ∷ ns) name i h = named_step (bytes_eq n name) n name ns (first_place name ns) i refl (λ j k. named_there ns name j k) h

-- so that place is the first of its name
pub first_is_first : (names : List (List ℕ)) (name : List ℕ) → IsFirst names (first_place name names)
first_is_first names name i h = subst (λ n. first_place n names ≡ Some i) (sym (named_there names name i h)) h

-- Items that have names.
module _ {X : Type 0} (name_of : X → List ℕ) (name : List ℕ) where
  item_step : (b : Bool) (x : X) (xs : List X) (o : Option X) (q : Option ℕ) → o ≡ option_and_then (slice_get xs) q → cond b (Some x) o ≡ option_and_then (slice_get (x ∷ xs)) (cond b (Some 0) (option_map suc q))
  item_step true x xs o q h = refl
  item_step false x xs o None h = h
  item_step false x xs o (Some i) h = h

  -- the first item of a name is at the first index of the name
  pub item_at_first : (xs : List X) → find (λ x. bytes_eq (name_of x) name) xs ≡ option_and_then (slice_get xs) (first_place name (map name_of xs))
  item_at_first [] = refl
  item_at_first (x ∷ xs) =
      item_step (bytes_eq (name_of x) name) x xs (find (λ y. bytes_eq (name_of y) name) xs) (first_place name (map name_of xs)) (item_at_first xs)
