-- The ranks of a document's fragments.
use Rattle.std.proofs.Common.{◌≡◌, ◌<◌, ℕ, List, [], length, Option, Some, None, Bool, true, false, cond, nat_lt, option_and_then, slice_get, refl, sym, ap, subst, ◌∙◌, arith}
use Rattle.std.specs.Option.{unwrap_or}
use Rattle.std.proofs.lemmas.Bool.{lt-ltb, ltb-true}
use Rattle.std.proofs.lemmas.Option.{slice_get_within}
use Rattle.language.specs.declared.tree.Definition.{Definition}
use Rattle.fragment_graph.specs.declared.cycles.DocumentCycles.{DocumentCycles}
use Rattle.fragment_graph.specs.Numbers.{number_of, names_of, Defines}
use Rattle.fragment_graph.specs.DocumentCycles.{SearchedDocument, NameSpreads}
use Rattle.fragment_graph.proofs.Lists.{same_some, none_some, get_some}
use Rattle.fragment_graph.proofs.Numbering.{below, single}
use Rattle.fragment_graph.proofs.NamePaths.{edge}
use Rattle.merge_set_table.specs.Known.{below as below_count}
use Rattle.merge_graph.specs.Building.{rank_in, AreKnown}
use Rattle.merge_graph.specs.Definitions.{last_place, IsLast, AreLast}
use Rattle.merge_graph.proofs.Lasts.{place_of_number}

then_some : {X Y : Type 0} (f : X → Option Y) (o : Option X) (y : Y) → option_and_then f o ≡ Some y → (x : X) × (o ≡ Some x) × (f x ≡ Some y)
then_some f None y h = absurd (none_some y h)
then_some f (Some x) y h = (x, refl, h)

-- the rank of a name, where it is below the count
known_by : (ranks : List ℕ) (count : ℕ) (o : Option ℕ) (g : ℕ) → option_and_then (λ v. option_and_then (below_count count) (slice_get ranks v)) o ≡ Some g
    → (option_and_then (λ v. slice_get ranks v) o ≡ Some g) × (g < count)
known_by ranks count None g h = absurd (none_some g h)
known_by ranks count (Some v) g h = at_rank (slice_get ranks v) h
  where
    by_test : (r : ℕ) (b : Bool) → nat_lt r count ≡ b → cond b (Some r) None ≡ Some g → (Some r ≡ Some g) × (g < count)
    by_test r true e k = let is : r ≡ g = same_some r g k in (k, subst (λ (q : ℕ). q < count) is (ltb-true r count e))
    by_test r false e k = absurd (none_some g k)

    at_rank : (r : Option ℕ) → option_and_then (below_count count) r ≡ Some g → (r ≡ Some g) × (g < count)
    at_rank None k = absurd (none_some g k)
    at_rank (Some r) k = by_test r (nat_lt r count) refl k

knows_by : (ranks : List ℕ) (count : ℕ) (o : Option ℕ) (g : ℕ) → option_and_then (λ v. slice_get ranks v) o ≡ Some g → g < count
    → option_and_then (λ v. option_and_then (below_count count) (slice_get ranks v)) o ≡ Some g
knows_by ranks count None g h l = absurd (none_some g h)
knows_by ranks count (Some v) g h l = ap (option_and_then (below_count count)) h ∙ ap (λ b. cond b (Some g) None) (lt-ltb g count l)

-- the fragments of the ranks below a count are known
pub known_ranks : (c : DocumentCycles) (ranks : List ℕ) (count : ℕ) → ranks ≡ c.outcome.ranks.items
    → AreKnown (rank_in c) count (λ name. option_and_then (λ v. option_and_then (below_count count) (slice_get ranks v)) (number_of c.graph.numbers name))
known_ranks c ranks count is = subst (λ rs. AreKnown (rank_in c) count (λ name. option_and_then (λ v. option_and_then (below_count count) (slice_get rs v)) (number_of c.graph.numbers name))) (sym is) record {
  known = λ name g h. known_by c.outcome.ranks.items count (number_of c.graph.numbers name) g h;
  knows = λ name g h l. knows_by c.outcome.ranks.items count (number_of c.graph.numbers name) g h l;
}

module _ {S : Type 0} (document : List (Definition S)) (c : DocumentCycles) (s : SearchedDocument document c) where
  -- the fragment's number in the search
  pub rank_split : (name : List ℕ) (g : ℕ) → rank_in c name ≡ Some g → (v : ℕ) × (number_of c.graph.numbers name ≡ Some v) × (slice_get c.outcome.ranks.items v ≡ Some g)
  rank_split name g h = then_some (λ v. slice_get c.outcome.ranks.items v) (number_of c.graph.numbers name) g h

  rank_joined : (name : List ℕ) (v g : ℕ) → number_of c.graph.numbers name ≡ Some v → slice_get c.outcome.ranks.items v ≡ Some g → rank_in c name ≡ Some g
  rank_joined name v g h k = ap (λ (o : Option ℕ). option_and_then (λ w. slice_get c.outcome.ranks.items w) o) h ∙ k

  as_many : length c.outcome.ranks.items ≡ length (names_of c.graph.numbers)
  as_many = s.outcome.rank_length ∙ s.graph.nodes.sized

  pub rank_defined : (name : List ℕ) (g : ℕ) → rank_in c name ≡ Some g → Defines document name
  rank_defined name g h = let r = rank_split name g h in (s.graph.numbers.defined name).0 (r.0, r.1)

  pub defined_rank : (name : List ℕ) → Defines document name → (g : ℕ) × (rank_in c name ≡ Some g)
  defined_rank name d =
      let v = (s.graph.numbers.defined name).1 d in
      let low : v.0 < length (names_of c.graph.numbers) = below c.graph.numbers s.graph.numbers.numbered name v.0 v.1 in
      let many = as_many in
      let r = get_some c.outcome.ranks.items v.0 (omega (arith, low, many)) in
      (r.0, rank_joined name v.0 r.0 v.1 r.1)

  pub rank_single : (name other : List ℕ) (g : ℕ) → rank_in c name ≡ Some g → rank_in c other ≡ Some g → name ≡ other
  rank_single name other g h k =
      let r = rank_split name g h in
      let q = rank_split other g k in
      let same : r.0 ≡ q.0 = same_some r.0 q.0 (sym ((s.outcome.ranked r.0 g).0 r.2) ∙ (s.outcome.ranked q.0 g).0 q.2) in
      single c.graph.numbers s.graph.numbers.numbered name other q.0 (subst (λ (v : ℕ). number_of c.graph.numbers name ≡ Some v) same r.1) q.1

  pub rank_low : (name : List ℕ) (g : ℕ) → rank_in c name ≡ Some g → g < length c.outcome.order.items
  rank_low name g h = let r = rank_split name g h in slice_get_within c.outcome.order.items g r.0 ((s.outcome.ranked r.0 g).0 r.2)

  -- the name of the node at a place in the order
  pub rank_at : (g v : ℕ) → slice_get c.outcome.order.items g ≡ Some v → rank_in c (unwrap_or (slice_get (names_of c.graph.numbers) v) []) ≡ Some g
  rank_at g v h =
      let ranked : slice_get c.outcome.ranks.items v ≡ Some g = (s.outcome.ranked v g).1 h in
      let low = slice_get_within c.outcome.ranks.items v g ranked in
      let many = as_many in
      let name = get_some (names_of c.graph.numbers) v (omega (arith, low, many)) in
      subst (λ (o : Option (List ℕ)). rank_in c (unwrap_or o []) ≡ Some g) (sym name.1)
      (rank_joined name.0 v g ((s.graph.numbers.numbered name.0 v).1 name.1) ranked)

  -- without a cycle, what a fragment spreads has a smaller number
  pub rank_falls : c.outcome.reports.items ≡ [] → (name other : List ℕ) (r g : ℕ) → rank_in c name ≡ Some r → rank_in c other ≡ Some g → NameSpreads document name other → g < r
  rank_falls none name other r g h k spreads =
      let u = rank_split name r h in
      let v = rank_split other g k in
      s.outcome.earlier none u.0 v.0 r g (edge document c.graph.numbers c.graph.nodes.items s.graph.numbers s.graph.nodes name other u.0 v.0 u.1 v.1 spreads) u.2 v.2

  abbrev pub name_at : ℕ → List ℕ
  name_at v = unwrap_or (slice_get (names_of c.graph.numbers) v) []

  -- what is kept at the node at a place in the order is kept for its name
  module _ (last : List (Option ℕ)) (are : AreLast document (last_place c.graph.numbers last)) (g v : ℕ) (at : slice_get c.outcome.order.items g ≡ Some v) where
    kept_for : (o : Option ℕ) → o ≡ option_and_then (λ p. p) (slice_get last v) → last_place c.graph.numbers last (name_at v) ≡ o
    kept_for o found =
        let low = slice_get_within c.outcome.ranks.items v g ((s.outcome.ranked v g).1 at) in
        let many = as_many in
        place_of_number c.graph.numbers s.graph.numbers.numbered last v (omega (arith, low, many)) ∙ sym found

    pub last_at : (place : ℕ) → Some place ≡ option_and_then (λ p. p) (slice_get last v) → IsLast document (name_at v) place
    last_at place found = are.each (name_at v) place (kept_for (Some place) found)

    pub has_last : None ≡ option_and_then (λ p. p) (slice_get last v) → ⊥
    has_last found = are.none_other (name_at v) (kept_for None found) (rank_defined (name_at v) g (rank_at g v at))
