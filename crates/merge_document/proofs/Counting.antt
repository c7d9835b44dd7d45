-- How many pairs of fragments a search compares, in the document's words.
use Rattle.std.proofs.Common.{◌≡◌, ◌≤◌, ◌*◌, ◌-◌, Bool, ℕ, List, Option, Some, None, map, length, option_map, slice_get, refl, sym, ap, subst, ◌∙◌, inl, inr, arith}
use Rattle.std.specs.List.{Contains}
use Rattle.std.specs.Option.{option_map_or}
use Rattle.std.proofs.Math.Nat.{mul-le-mul_left, mul-le-mul_right}
use Rattle.std.proofs.lemmas.List.{length-map}
use Rattle.std.proofs.lemmas.List.Elements.{All-weaker, All-map, All-contains}
use Rattle.std.proofs.lemmas.Option.{slice_get-map}
use Rattle.language.specs.declared.tree.Definition.{Definition}
use Rattle.language.specs.declared.tree.Selection.{Selection}
use Rattle.meta.specs.declared.kinds.MetaTypeOf.{MetaTypeOf}
use Rattle.schema.specs.Catalog.{Catalog}
use Rattle.fragment_graph.proofs.Lists.{same_some, none_some, contains_at}
use Rattle.merge_sets.specs.World.{World, spreads_of}
use Rattle.merge_tops.specs.Tops.{SamePair, SpreadTogether, Together}
use Rattle.merge_set_table.specs.Table.{Numbered}
use Rattle.merge_set_table.specs.Parts.{IsPartAt}
use Rattle.merge_graph.specs.SetsIn.{IsSetIn}
use Rattle.merge_document.specs.Found.{SameNames, AreSpreadTogether, AreTogether}
use Rattle.merge_document.proofs.Sets.{IsWorldOf, number_of}

pub pairs_grow : (n k : ℕ) → n ≤ k → n * (n - 1) ≤ k * (k - 1)
pairs_grow n k l =
    let less : n - 1 ≤ k - 1 = omega (arith, l) in
    let first : n * (n - 1) ≤ k * (n - 1) = mul-le-mul_right (n - 1) l in
    let second : k * (n - 1) ≤ k * (k - 1) = mul-le-mul_left k less in omega (arith, first, second)

pub more_times : (n k lists : ℕ) → n ≤ k → n * lists ≤ k * lists
more_times n k lists l = mul-le-mul_right lists l

mapped_some : {X Y : Type 0} (f : X → Y) (o : Option X) (y : Y) → option_map f o ≡ Some y → (x : X) × (o ≡ Some x) × (f x ≡ y)
mapped_some f None y h = absurd (none_some y h)
mapped_some f (Some x) y h = (x, refl, same_some (f x) y h)

mapped_get : {X Y : Type 0} (f : X → Y) (xs : List X) (k : ℕ) (y : Y) → slice_get (map f xs) k ≡ Some y → (x : X) × (slice_get xs k ≡ Some x) × (f x ≡ y)
mapped_get f xs k y h = mapped_some f (slice_get xs k) y (sym (slice_get-map f xs k) ∙ h)

module _ {S C : Type 0} (E : S → S → Bool) (schema : Catalog S C) (document : List (Definition S)) (numbers : List ℕ → Option ℕ) (m : Numbered S C) (w : World) (is : IsWorldOf E schema document numbers m w)
    (order : List ℕ) (sets : (p : Option (MetaTypeOf S C)) (set : List (Selection S)) → IsSetIn schema document p set → (s : ℕ) × Contains order s × IsPartAt schema numbers m s p set) where
  abbrev pub number : List ℕ → ℕ
  number name = option_map_or (λ k. k) (numbers name) 0

  number_is : (name : List ℕ) (f : ℕ) → numbers name ≡ Some f → number name ≡ f
  number_is name f h = ap (λ (o : Option ℕ). option_map_or (λ k. k) o 0) h

  abbrev pub pair_of : List ℕ × List ℕ → ℕ × ℕ
  pair_of p = (number p.0, number p.1)

  apart : (name other : List ℕ) → (f : ℕ) × (numbers name ≡ Some f) → (g : ℕ) × (numbers other ≡ Some g) → number name ≡ number other → name ≡ other
  apart name other f g same =
      is.single name other g.0 (f.1 ∙ ap (λ (k : ℕ). Some k) (sym (number_is name f.0 f.1) ∙ same ∙ number_is other g.0 g.1)) g.1

  together : (p : List ℕ × List ℕ) → AreSpreadTogether schema document p → SpreadTogether w order (pair_of p)
  together p h =
      let f = is.defined p.0 h.first in let g = is.defined p.1 h.second in
      let s = sets h.parent h.set h.is in (
        λ e. h.different (apart p.0 p.1 f g e),
        (
          s.0,
          s.1,
          subst (λ (k : ℕ). Contains (spreads_of w s.0) k) (sym (number_is p.0 f.0 f.1)) (number_of E schema document numbers m w is (s.2).is ((s.2).part.names p.0 h.spreads_first) f.1),
          subst (λ (k : ℕ). Contains (spreads_of w s.0) k) (sym (number_is p.1 g.0 g.1)) (number_of E schema document numbers m w is (s.2).is ((s.2).part.names p.1 h.spreads_second) g.1),
        ),
      )

  same_names : (p q : List ℕ × List ℕ) → AreSpreadTogether schema document p → AreSpreadTogether schema document q → SamePair (pair_of p) (pair_of q) → SameNames p q
  same_names p q a b (inl h) = inl (apart p.0 q.0 (is.defined p.0 a.first) (is.defined q.0 b.first) h.0, apart p.1 q.1 (is.defined p.1 a.second) (is.defined q.1 b.second) h.1)
  same_names p q a b (inr h) = inr (apart p.0 q.1 (is.defined p.0 a.first) (is.defined q.1 b.second) h.0, apart p.1 q.0 (is.defined p.1 a.second) (is.defined q.0 b.first) h.1)

  pub together_all : (ps : List (List ℕ × List ℕ)) → AreTogether schema document ps → Together w order (map pair_of ps)
  together_all ps h = record {
    spread = All-map (SpreadTogether w order) pair_of ps (All-weaker (AreSpreadTogether schema document) (λ p. SpreadTogether w order (pair_of p)) together ps h.spread);
    once = λ k l p q lt at bt same.
        let x = mapped_get pair_of ps k p at in let y = mapped_get pair_of ps l q bt in
        h.once k l x.0 y.0 lt x.1 y.1 (same_names x.0 y.0
        (All-contains (AreSpreadTogether schema document) ps x.0 h.spread (contains_at ps k x.0 x.1))
        (All-contains (AreSpreadTogether schema document) ps y.0 h.spread (contains_at ps l y.0 y.1))
        (subst (λ (z : ℕ × ℕ). SamePair z (pair_of y.0)) (sym x.2) (subst (λ (z : ℕ × ℕ). SamePair p z) (sym y.2) same)));
  }

  pub as_many : (ps : List (List ℕ × List ℕ)) → length (map pair_of ps) ≡ length ps
  as_many ps = length-map ps pair_of
