-- Where all fields of two lists merge the work is done, and nothing is told.
use Rattle.std.proofs.Common.{◌≡◌, ℕ, List, Bool, true, false, get_or, inl, inr, ◌⊎◌, None, Some, Option, sym, subst, ◌∙◌}
use Rattle.std.specs.Option.{is_some}
use Rattle.std.specs.List.{All, Contains}
use Rattle.std.proofs.lemmas.List.Elements.{All-contains, Contains-get_or}
use Rattle.merge_sets.specs.declared.node.Entry.{Entry}
use Rattle.merge_search.specs.declared.state.Search.{Search}
use Rattle.merge_sets.specs.declared.finding.Finding.{Finding}
use Rattle.merge_sets.specs.Names.{named}
use Rattle.merge_sets.specs.World.{World, own_of, conflict_of}
use Rattle.merge_sets.specs.Merging.{Merges, merges}
use Rattle.merge_sets.specs.Clear.{IsClear, AreClear, AreOthers}
use Rattle.merge_search.specs.Work as done
use Rattle.merge_search.specs.Work.{Done}
use Rattle.merge_search.specs.Reports.{Root, AddsAll, AtNamed, AtRest}
use Rattle.merge_search.specs.Tasks.{Compares}
use Rattle.merge_search.proofs.Adding.{adds_none, all_map, merges_none}
use Rattle.merge_sets.proofs.Laws.{clash}
use Rattle.merge_sets.proofs.OneName.{named_in, named_is}
use Rattle.merge_search.proofs.Work.{did_none}

pub is_leaf_too : {X : Type 0} (o : Option X) → is_some o ≡ true → o ≡ None → ⊥
is_leaf_too None h is = cc
is_leaf_too (Some x) h is = cc

module _ (w : World) (e : Bool) (left right : List Entry) (clear : AreClear w e left right) where
  pair : (a b : Entry) → Contains left a → Contains right b → Merges w e a b
  pair a b p q = All-contains (λ y. Merges w e a y) right b (All-contains (λ z. IsClear w e z right) left a clear p) q

  pub clear_done : (M : Search) (a b : Entry) → Contains left a → Contains right b → Done w M e a b
  clear_done M a b p q = done.merged (pair a b p q)

  pub clear_tells : (P Q : Root → Type 0) (xs : List Finding) → ((r : Root) → Q r → Contains left r.left × Contains right r.right) → AddsAll w e P Q xs xs
  clear_tells P Q xs at = record {
    adds = adds_none w e P xs;
    tells = λ room r here fails. absurd (clash (conflict_of w e r.left r.right) fails (merges_none (pair r.left r.right (at r here).0 (at r here).1)));
  }

-- a field that merges with each of some others
pub rest_clear : (w : World) (e : Bool) (a : Entry) (others : List Entry) (s : Search) → IsClear w e a others
    → Compares w e (λ M. All (λ b. Done w M e a b) others) (AtRest a others) (AtRest a others) s s
rest_clear w e a others s clear = record {
  done = did_none w _ s (λ M grown k d l. done.merged (clear k d l));
  real = record {
    adds = adds_none w e (AtRest a others) s.found.items;
    tells = λ room r at fails. absurd (clash (conflict_of w e r.left r.right) fails
        (subst (λ (x : Entry). conflict_of w e x r.right ≡ false) (sym at.0) (merges_none (All-contains (λ b. Merges w e a b) others r.right clear at.1))));
  };
}

-- a field and some others, of which those were compared of which it wasn't known that they merge with it
module _ (w : World) (e : Bool) (a : Entry) (rest others : List Entry) (are : AreOthers w e a rest others) where
  pub others_done : (M : Search) → All (λ b. Done w M e a b) others → All (λ b. Done w M e a b) rest
  others_done M all k d l = elim (are.all k d l) [
    | inl there ↦ All-contains (λ b. Done w M e a b) others (get_or rest k d) all there
    | inr ok ↦ done.merged ok
  ]

  pub others_told : {xs ys : List Finding} → AddsAll w e (AtRest a others) (AtRest a others) xs ys → AddsAll w e (AtRest a rest) (AtRest a rest) xs ys
  others_told found =
      let wide = all_map w e (AtRest a others) (AtRest a rest) (AtRest a others) (λ r z. (z.0, All-contains (λ b. Contains rest b) others r.right are.only z.1)) found in
      record {
        adds = wide.adds;
        tells = λ room r at fails. elim (All-contains (λ b. Contains others b ⊎ Merges w e a b) rest r.right are.all at.1) [
          | inl there ↦ wide.tells room r (at.0, there) fails
          | inr ok ↦ absurd (clash (conflict_of w e r.left r.right) fails (subst (λ (x : Entry). conflict_of w e x r.right ≡ false) (sym at.0) (passes ok)))
        ];
      }
    where
      passes : {b : Entry} → Merges w e a b → conflict_of w e a b ≡ false
      passes (merges ok more) = ok

-- the fields of one name of two sets
module _ (w : World) (e : Bool) (i j n : ℕ) (left right : List Entry) (is : left ≡ named n (own_of w i)) (other : right ≡ named n (own_of w j)) (clear : AreClear w e left right) where
  abbrev lefts : List Entry
  lefts = named n (own_of w i)

  abbrev rights : List Entry
  rights = named n (own_of w j)

  both : AreClear w e lefts rights
  both = subst (λ ys. AreClear w e lefts ys) other (subst (λ xs. AreClear w e xs right) is clear)

  pub named_done : (M : Search) → All (λ a. All (λ b. Done w M e a b) (named a.response (own_of w j))) lefts
  named_done M k d l m f less =
      let a = get_or lefts k d in
      let b = get_or (named a.response (own_of w j)) m f in
      let there = Contains-get_or lefts k d l in
      clear_done w e lefts rights both M a b there
      (subst (λ (x : ℕ). Contains (named x (own_of w j)) b) (named_is n (own_of w i) a there) (Contains-get_or (named a.response (own_of w j)) m f less))

  pub named_tells : (xs : List Finding) → AddsAll w e (AtNamed w i j n) (AtNamed w i j n) xs xs
  named_tells xs = clear_tells w e lefts rights both (AtNamed w i j n) (AtNamed w i j n) xs
      (λ r at. (named_in n (own_of w i) r.left at.0 at.1, named_in n (own_of w j) r.right at.2 (sym at.3 ∙ at.1)))
