-- How the graph of a document grows, definition by definition.
use Rattle.std.proofs.Common.{◌≡◌, ℕ, ◌+◌, List, [], ◌∷◌, ◌++◌, length, refl, sym, subst, ap, arith, ◌∙◌, Bool, true, false, cond, Some, append-nil, map, slice_get, slice_set, length-set, length-append, zero, suc}
use Rattle.std.specs.Option.{option_map_or}
use Rattle.std.specs.List.{Contains}
use Rattle.std.specs.Str.{bytes_eq}
use Rattle.std.proofs.lemmas.Slice.Eq.{bytes_eq-Decides}
use Rattle.std.proofs.lemmas.List.{length-map}
use Rattle.language_types.specs.declared.position.Spanning.{Spanning}
use Rattle.language_types.specs.declared.position.Span.{Span}
use Rattle.language.specs.declared.tree.Fragment.{Fragment}
use Rattle.language.specs.declared.tree.Definition.{Definition}
use Rattle.language.specs.declared.tree.Definition.TheVariants as definition
use Rattle.fragment_graph.specs.declared.graph.Node.{Node}
use Rattle.fragment_graph.specs.declared.numbers.Numbers.{Numbers}
use Rattle.fragment_graph.specs.Graph.{spreads_of, spread_count}
use Rattle.fragment_graph.specs.Spreads.{placed_spreads_of_all}
use Rattle.fragment_graph.specs.Numbers.{number_of, WellNumbered, NumbersOf}
use Rattle.fragment_graph.specs.DocumentGraph.{resolved, IsNumbered, JoinsDefinition}
use Rattle.fragment_graph.proofs.Lists.{same_item, same_some, none_some, set_same, set_other}
use Rattle.fragment_graph.proofs.Numbering.{single}

-- how many spreads there are where the spreads of one node were replaced
spread_count-set : (nodes : List Node) (k : ℕ) (was made : Node) → slice_get nodes k ≡ Some was
    → spread_count (slice_set nodes k made) + length was.spreads.items ≡ spread_count nodes + length made.spreads.items
spread_count-set [] k was made h = absurd (none_some was h)
spread_count-set (n ∷ ns) zero was made h =
    let same : length n.spreads.items ≡ length was.spreads.items = ap (λ (m : Node). length m.spreads.items) (same_some n was h) in omega (arith, same)
spread_count-set (n ∷ ns) (suc k) was made h = omega (arith, spread_count-set ns k was made h)

pub spread_count-push : (nodes : List Node) (m : Node) → spread_count (nodes ++ m ∷ []) ≡ spread_count nodes + length m.spreads.items
spread_count-push [] m = omega arith
spread_count-push (n ∷ ns) m = omega (arith, spread_count-push ns m)

spreads_at : (nodes : List Node) (k : ℕ) (m : Node) → slice_get nodes k ≡ Some m → spreads_of nodes k ≡ m.spreads.items
spreads_at nodes k m h = ap (λ o. option_map_or (λ (n : Node). n.spreads.items) o []) h

not_true : (b : Bool) → b ≡ false → b ≡ true → ⊥
not_true b p q = cc

module _ {S : Type 0} (n : Numbers) (f : Spanning (Fragment S) Span) (nodes : List Node) (place : ℕ) (was made : Node)
    (w : WellNumbered n) (at : number_of n f.item.name.item.now ≡ Some place) (there : slice_get nodes place ≡ Some was)
    (grown : made.spreads.items ≡ was.spreads.items ++ map (resolved n) (placed_spreads_of_all f.item.selection_set.items)) where
  by_test : (name : List ℕ) (k : ℕ) → number_of n name ≡ Some k → (b : Bool) → bytes_eq f.item.name.item.now name ≡ b
      → spreads_of (slice_set nodes place made) k ≡ spreads_of nodes k ++ map (resolved n) (cond b (placed_spreads_of_all f.item.selection_set.items) [])
  by_test name k h true e =
      let same : f.item.name.item.now ≡ name = (bytes_eq-Decides f.item.name.item.now name).0 e in
      let is : place ≡ k = same_item place k (number_of n name) (ap (number_of n) (sym same) ∙ at) h in
      subst (λ (i : ℕ). spreads_of (slice_set nodes place made) i ≡ spreads_of nodes i ++ map (resolved n) (placed_spreads_of_all f.item.selection_set.items)) is
      (spreads_at (slice_set nodes place made) place made (set_same nodes place was made there) ∙ grown
      ∙ ap (λ z. z ++ map (resolved n) (placed_spreads_of_all f.item.selection_set.items)) (sym (spreads_at nodes place was there)))
  by_test name k h false e =
      ap (λ o. option_map_or (λ (m : Node). m.spreads.items) o [])
      (set_other nodes place k made (λ q. not_true (bytes_eq f.item.name.item.now name) e ((bytes_eq-Decides f.item.name.item.now name).1
      (single n w f.item.name.item.now name place at (h ∙ ap Some q)))))
      ∙ sym (append-nil (spreads_of nodes k))

  grew : length made.spreads.items ≡ length was.spreads.items + length (placed_spreads_of_all f.item.selection_set.items)
  grew =
      ap length grown ∙ length-append was.spreads.items (map (resolved n) (placed_spreads_of_all f.item.selection_set.items))
      ∙ ap (λ k. length was.spreads.items + k) (length-map (placed_spreads_of_all f.item.selection_set.items) (resolved n))

  pub joined_one : JoinsDefinition n (definition.Fragment f) nodes (slice_set nodes place made)
  joined_one = record {
    sized = length-set nodes place made;
    joined = λ name k h. by_test name k h (bytes_eq f.item.name.item.now name) refl;
    counted = omega (arith, grew, spread_count-set nodes place was made there);
  }

pub none_at_all : (nodes : List Node) (k : ℕ) → nodes ≡ [] → spreads_of nodes k ≡ []
none_at_all nodes k e = ap (λ zs. spreads_of zs k) e

empty_push : (nodes : List Node) (m : Node) → m.spreads.items ≡ [] → ((k : ℕ) → spreads_of nodes k ≡ []) → (k : ℕ) → spreads_of (nodes ++ m ∷ []) k ≡ []
empty_push [] m e h zero = e
empty_push [] m e h (suc k) = refl
empty_push (n ∷ ns) m e h zero = h zero
empty_push (n ∷ ns) m e h (suc k) = empty_push ns m e (λ i. h (suc i)) k

pub empty_more : (nodes new : List Node) (m : Node) (k : ℕ) → new ≡ nodes ++ m ∷ [] → m.spreads.items ≡ [] → ((i : ℕ) → spreads_of nodes i ≡ []) → spreads_of new k ≡ []
empty_more nodes new m k e h was = ap (λ zs. spreads_of zs k) e ∙ empty_push nodes m h was k

pub none_counted : (nodes : List Node) → nodes ≡ [] → spread_count nodes ≡ 0
none_counted nodes e = ap spread_count e

pub counted_more : (nodes new : List Node) (m : Node) → new ≡ nodes ++ m ∷ [] → m.spreads.items ≡ [] → spread_count nodes ≡ 0 → spread_count new ≡ 0
counted_more nodes new m e h was =
    let more = spread_count-push nodes m in
    let empty : length m.spreads.items ≡ 0 = ap length h in
    ap spread_count e ∙ omega (arith, more, empty, was)

-- each definition's fragment has a number
pub each_numbered : {S : Type 0} (n : Numbers) (document : List (Definition S)) (d : Definition S) → NumbersOf document n → Contains document d → IsNumbered n d
each_numbered n document (definition.Operation o) h c = tt
each_numbered n document (definition.Fragment f) h c = (h.defined f.item.name.item.now).1 (definition.Fragment f, c, refl)
