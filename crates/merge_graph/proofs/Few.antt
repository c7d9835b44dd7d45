-- There are no more fragments than definitions of fragments.
use Rattle.std.proofs.Common.{◌≡◌, ◌<◌, ◌≤◌, ℕ, zero, suc, List, [], ◌∷◌, length, get_or, Some, Bool, true, false, cond, slice_get, refl, sym, ap, subst, ◌∙◌, arith}
use Rattle.std.specs.List.{Contains, flat_map}
use Rattle.std.specs.Str.{bytes_eq}
use Rattle.std.proofs.lemmas.Bool.{true≢false}
use Rattle.std.proofs.lemmas.Option.{get_or_from_slice_get, slice_get-get_or}
use Rattle.std.proofs.lemmas.Slice.Eq.{bytes_eq-Decides}
use Rattle.indexmap.proofs.IndexTableLemmas.Probe.{pigeonhole}
use Rattle.language.specs.declared.tree.Definition.{Definition}
use Rattle.language.specs.declared.tree.Definition.TheVariants as definition
use Rattle.fragment_graph.specs.declared.cycles.DocumentCycles.{DocumentCycles}
use Rattle.fragment_graph.specs.declared.numbers.Numbers.{Numbers}
use Rattle.fragment_graph.specs.Numbers.{number_of, names_of, IsNamed, Defines, NumbersOf}
use Rattle.fragment_graph.specs.DocumentCycles.{SearchedDocument}
use Rattle.fragment_graph.proofs.Lists.{same_some, contains_get, contains_at}
use Rattle.fragment_graph.proofs.Numbering.{below}
use Rattle.merge_graph.specs.Definitions.{fragment_count}
use Rattle.merge_graph.specs.Building.{rank_in}
use Rattle.merge_graph.proofs.Ranks.{rank_split}
use Rattle.merge_graph.proofs.Renumbering.{in_flat}

-- the first place of a name
first_index : List ℕ → List (List ℕ) → ℕ
first_index name [] = 0
first_index name (x ∷ xs) = cond (bytes_eq x name) 0 (suc (first_index name xs))

within_by : (name x : List ℕ) (xs : List (List ℕ)) (t : Bool) → bytes_eq x name ≡ t → (t ≡ false → first_index name xs < length xs) → cond t 0 (suc (first_index name xs)) < suc (length xs)
within_by name x xs true e h = omega arith
within_by name x xs false e h = let l = h refl in omega (arith, l)

later : (name x : List ℕ) (xs : List (List ℕ)) → Contains (x ∷ xs) name → bytes_eq x name ≡ false → Contains xs name
later name x xs c e = at_place (contains_get (x ∷ xs) name c).0 (contains_get (x ∷ xs) name c).1
  where
    at_place : (k : ℕ) → slice_get (x ∷ xs) k ≡ Some name → Contains xs name
    at_place zero h = absurd (true≢false (sym ((bytes_eq-Decides x name).1 (same_some x name h)) ∙ e))
    at_place (suc k) h = contains_at xs k name h

index_within : (name : List ℕ) (xs : List (List ℕ)) → Contains xs name → first_index name xs < length xs
unfolding first_index
index_within name [] c = let (k, l, e) = c in absurd (omega (arith, l))
index_within name (x ∷ xs) c = within_by name x xs (bytes_eq x name) refl (λ e. index_within name xs (later name x xs c e))

named_by : (name x : List ℕ) (xs : List (List ℕ)) (t : Bool) → bytes_eq x name ≡ t → (t ≡ false → get_or xs (first_index name xs) [] ≡ name) → get_or (x ∷ xs) (cond t 0 (suc (first_index name xs))) [] ≡ name
named_by name x xs true e h = (bytes_eq-Decides x name).0 e
named_by name x xs false e h = h refl

index_named : (name : List ℕ) (xs : List (List ℕ)) → Contains xs name → get_or xs (first_index name xs) [] ≡ name
unfolding first_index
index_named name [] c = let (k, l, e) = c in absurd (omega (arith, l))
index_named name (x ∷ xs) c = named_by name x xs (bytes_eq x name) refl (λ e. index_named name xs (later name x xs c e))

module _ {S : Type 0} where
  name_here : Definition S → List (List ℕ)
  name_here (definition.Operation o) = []
  name_here (definition.Fragment f) = f.item.name.item.now ∷ []

  counted : (document : List (Definition S)) → length (flat_map name_here document) ≡ fragment_count document
  unfolding name_here
  counted [] = refl
  counted (definition.Operation o ∷ ds) = counted ds
  counted (definition.Fragment f ∷ ds) = ap suc (counted ds)

  has_name : (name : List ℕ) (d : Definition S) → IsNamed name d → Contains (name_here d) name
  unfolding name_here
  has_name name (definition.Operation o) h = absurd h
  has_name name (definition.Fragment f) h = contains_at (f.item.name.item.now ∷ []) 0 name (ap (λ n. Some n) h)

  defined_within : (document : List (Definition S)) (name : List ℕ) → Defines document name → Contains (flat_map name_here document) name
  defined_within document name (d, c, h) = let k = contains_get document d c in in_flat name_here document k.0 d name k.1 (has_name name d h)

  -- as many names as definitions of fragments at most
  few_names : (document : List (Definition S)) (n : Numbers) → NumbersOf document n → length (names_of n) ≤ fragment_count document
  few_names document n h =
      let names = names_of n in
      let places = flat_map name_here document in
      let at : ℕ → List ℕ = λ k. get_or names k [] in
      let there : (k : ℕ) → k < length names → slice_get names k ≡ Some (at k) = λ k l. slice_get-get_or names k [] l in
      let defined : (k : ℕ) → k < length names → Contains places (at k) = λ k l. defined_within document (at k) ((h.defined (at k)).0 (k, (h.numbered (at k) k).1 (there k l))) in
      subst (λ (m : ℕ). length names ≤ m) (counted document)
      (pigeonhole (length names) (length places) (λ k. first_index (at k) places)
      (λ k l. index_within (at k) places (defined k l))
      (λ i j l r e.
      let same : at i ≡ at j = sym (index_named (at i) places (defined i l)) ∙ ap (λ (p : ℕ). get_or places p []) e ∙ index_named (at j) places (defined j r) in
      same_some i j (sym ((h.numbered (at i) i).1 (there i l)) ∙ ap (number_of n) same ∙ (h.numbered (at j) j).1 (there j r))))

  -- and so many numbers
  pub few_numbers : (document : List (Definition S)) (c : DocumentCycles) → SearchedDocument document c → (fragments : List ℕ) → ((g : ℕ) → g < length fragments → (name : List ℕ) × (rank_in c name ≡ Some g))
      → length fragments ≤ fragment_count document
  few_numbers document c s fragments named =
      let names = names_of c.graph.numbers in
      let node : ℕ → ℕ = λ g. get_or c.outcome.order.items g 0 in
      let ranked : (g : ℕ) → g < length fragments → (v : ℕ) × (v < length names) × (node g ≡ v) × (slice_get c.outcome.ranks.items v ≡ Some g) = λ g l.
      (let r = named g l in
      let (v, at, rank) = rank_split document c s r.0 g r.1 in
      (v, below c.graph.numbers s.graph.numbers.numbered r.0 v at, get_or_from_slice_get c.outcome.order.items g v 0 ((s.outcome.ranked v g).0 rank), rank)) in
      let most = pigeonhole (length fragments) (length names) node
      (λ g l. let r = ranked g l in subst (λ (v : ℕ). v < length names) (sym r.2) r.1)
      (λ i j l m e.
      let p = ranked i l in
      let q = ranked j m in
      let same : p.0 ≡ q.0 = sym p.2 ∙ e ∙ q.2 in
      same_some i j (sym p.3 ∙ ap (λ (v : ℕ). slice_get c.outcome.ranks.items v) same ∙ q.3)) in
      let few = few_names document c.graph.numbers s.graph.numbers in
      omega (arith, most, few)
