-- How names get numbers.
use Rattle.std.proofs.Common.{◌≡◌, ℕ, ◌<◌, List, [], ◌∷◌, ◌++◌, length, refl, sym, ap, ◌∙◌, inl, inr, ◌⊎◌, Bool, true, false, cond, Option, Some, None, map, slice_get}
use Rattle.std.specs.Option.{is_some}
use Rattle.std.specs.Str.{bytes_eq}
use Rattle.std.proofs.lemmas.Slice.Eq.{bytes_eq-Decides}
use Rattle.std.proofs.lemmas.List.{length-map, map-append}
use Rattle.std.proofs.lemmas.Option.{slice_get_within}
use denote.Ref.{Bor}
use Rattle.name_tables.specs.declared.map.NameMap.{NameMap}
use Rattle.name_tables.specs.Adding.{Adds, or_else}
use Rattle.name_tables.specs.Maps.{entries_of, index_of}
use Rattle.fragment_graph.specs.declared.numbers.Numbers.{Numbers}
use Rattle.fragment_graph.specs.Numbers.{number_of, names_of, WellNumbered}
use Rattle.fragment_graph.proofs.Lists.{same_item, same_some, none_some, get_more, get_snoc, get_end, get_some}

names_by_case : (b : Bool) (n : Numbers) (name : Bor (List ℕ)) (x : Unit {0}) → map (λ e. e.0.now) (cond b (entries_of n.map.value) (entries_of n.map.value ++ (name, x) ∷ [])) ≡ cond b (names_of n) (names_of n ++ name.now ∷ [])
names_by_case true n name x = refl
names_by_case false n name x = map-append (λ e. e.0.now) (entries_of n.map.value) ((name, x) ∷ [])

-- a name's number is its index
pub number_is : (n : Numbers) (name : List ℕ) → number_of n name ≡ index_of n.map.value name
unfolding number_of
number_is n name = refl

-- the numbers that a map gives, in place of those that these names have
abbrev pub by_map : Numbers → NameMap (Unit {0}) → Numbers
by_map n m = record { map = record { ptr = n.map.ptr; value = m } }

-- the name got the next number, if it had none
pub record AddsName (old new : Numbers) (name : List ℕ) : Type 0 where
  pub numbers : (other : List ℕ) → number_of new other ≡ or_else (number_of old other) (cond (bytes_eq name other) (Some (length (names_of old))) None)
  pub names : names_of new ≡ cond (is_some (number_of old name)) (names_of old) (names_of old ++ name ∷ [])

-- a map with one name more
pub adds_name : (old new : Numbers) (name : Bor (List ℕ)) (x : Unit {0}) → Adds name x old.map.value new.map.value → AddsName old new name.now
adds_name old new name x a = record {
  numbers = λ other.
      number_is new other
      ∙ a.indices other
      ∙ ap (λ k. or_else (index_of old.map.value other) (cond (bytes_eq name.now other) (Some k) None)) (sym (length-map (entries_of old.map.value) (λ e. e.0.now)))
      ∙ ap (λ o. or_else o (cond (bytes_eq name.now other) (Some (length (names_of old))) None)) (sym (number_is old other));
  names =
      ap (map (λ e. e.0.now)) a.entries
      ∙ names_by_case (is_some (index_of old.map.value name.now)) old name x
      ∙ ap (λ o. cond (is_some o) (names_of old) (names_of old ++ name.now ∷ [])) (sym (number_is old name.now));
}

split : (b : Bool) (p : Option ℕ) (c k : ℕ) → or_else p (cond b (Some c) None) ≡ Some k → (p ≡ Some k) ⊎ ((p ≡ None) × (b ≡ true) × (c ≡ k))
split b (Some j) c k h = inl h
split true None c k h = inr (refl, refl, same_some c k h)
split false None c k h = absurd (none_some k h)

pub yes_self : (name : List ℕ) → bytes_eq name name ≡ true
yes_self name = (bytes_eq-Decides name name).1 refl

module _ (n : Numbers) (w : WellNumbered n) where
  pub below : (name : List ℕ) (k : ℕ) → number_of n name ≡ Some k → k < length (names_of n)
  below name k h = slice_get_within (names_of n) k name ((w name k).0 h)

  pub named : (k : ℕ) → k < length (names_of n) → (name : List ℕ) × (number_of n name ≡ Some k)
  named k l = let g = get_some (names_of n) k l in (g.0, (w g.0 k).1 g.1)

  pub single : (a b : List ℕ) (k : ℕ) → number_of n a ≡ Some k → number_of n b ≡ Some k → a ≡ b
  single a b k h i = same_item a b (slice_get (names_of n) k) ((w a k).0 h) ((w b k).0 i)

module _ (old new : Numbers) (name : List ℕ) (a : AddsName old new name) where
  abbrev next : ℕ
  next = length (names_of old)

  pub number_split : (o : List ℕ) (k : ℕ) → number_of new o ≡ Some k
      → (number_of old o ≡ Some k) ⊎ ((number_of old o ≡ None) × (name ≡ o) × (next ≡ k))
  number_split o k h = elim (split (bytes_eq name o) (number_of old o) next k (sym (a.numbers o) ∙ h)) [
    | inl p ↦ inl p
    | inr p ↦ inr (p.0, (bytes_eq-Decides name o).0 p.1, p.2)
  ]

  pub number_keep : (o : List ℕ) (k : ℕ) → number_of old o ≡ Some k → number_of new o ≡ Some k
  number_keep o k h = a.numbers o ∙ ap (λ z. or_else z (cond (bytes_eq name o) (Some next) None)) h

  pub number_new : number_of old name ≡ None → number_of new name ≡ Some next
  number_new h = a.numbers name ∙ ap (λ z. or_else z (cond (bytes_eq name name) (Some next) None)) h ∙ ap (λ b. cond b (Some next) None) (yes_self name)

  -- the name has a number now
  pub number_there : (o : Option ℕ) → number_of old name ≡ o → (k : ℕ) × (number_of new name ≡ Some k)
  number_there None h = (next, number_new h)
  number_there (Some k) h = (k, number_keep name k h)

  names_by : (o : Option ℕ) → number_of old name ≡ o → names_of new ≡ cond (is_some o) (names_of old) (names_of old ++ name ∷ [])
  names_by o h = a.names ∙ ap (λ z. cond (is_some z) (names_of old) (names_of old ++ name ∷ [])) h

  placed : (o : Option ℕ) → number_of old name ≡ o → (x : List ℕ) (k : ℕ) → slice_get (names_of old) k ≡ Some x → slice_get (names_of new) k ≡ Some x
  placed None h x k g = ap (λ xs. slice_get xs k) (names_by None h) ∙ get_more (names_of old) (name ∷ []) k x g
  placed (Some j) h x k g = ap (λ xs. slice_get xs k) (names_by (Some j) h) ∙ g

  numbered_now : WellNumbered old → (o : Option ℕ) → number_of old name ≡ o → (x : List ℕ) (k : ℕ) → slice_get (names_of new) k ≡ Some x → number_of new x ≡ Some k
  numbered_now w (Some j) h x k g = number_keep x k ((w x k).1 (ap (λ xs. slice_get xs k) (sym (names_by (Some j) h)) ∙ g))
  numbered_now w None h x k g = elim (get_snoc (names_of old) name k x (ap (λ xs. slice_get xs k) (sym (names_by None h)) ∙ g)) [
    | inl was ↦ number_keep x k ((w x k).1 was)
    | inr last ↦ ap (number_of new) (sym last.1) ∙ number_new h ∙ ap Some (sym last.0)
  ]

  pub well_more : WellNumbered old → WellNumbered new
  well_more w = λ x k. (
    λ h. elim (number_split x k h) [
      | inl p ↦ placed (number_of old name) refl x k ((w x k).0 p)
      | inr p ↦
          ap (λ xs. slice_get xs k) (names_by None (ap (number_of old) p.1 ∙ p.0))
          ∙ get_end (names_of old) name k (sym p.2) ∙ ap Some p.1
    ],
    numbered_now w (number_of old name) refl x k,
  )
