-- What a search found says of its document: real conflicts, and none is missed.
use Rattle.std.proofs.Common.{◌≡◌, ◌<◌, ℕ, List, [], Bool, false, Option, length, get_or, refl, sym, ap, subst, ◌∙◌, inl, inr, arith}
use Rattle.std.specs.List.{Contains}
use Rattle.std.specs.Option.{is_some}
use Rattle.std.proofs.lemmas.List.Elements.{All-weaker, All-contains, Contains-get_or}
use Rattle.language.specs.declared.tree.Selection.{Selection}
use Rattle.language.specs.declared.tree.Definition.{Definition}
use Rattle.meta.specs.declared.kinds.MetaTypeOf.{MetaTypeOf}
use Rattle.schema.specs.Catalog.{Catalog}
use Rattle.merge_field_pairs.specs.Entries.{PlainEntry, exclusive_of}
use Rattle.merge_field_pairs.specs.OwnFields.{entry_under}
use Rattle.merge_field_pairs.specs.DirectReason.{direct_of}
use Rattle.merge_field_pairs.specs.Numbered.{AreTidy}
use Rattle.merge_sets.specs.declared.node.Entry.{Entry}
use Rattle.merge_sets.specs.declared.finding.Finding.{Finding}
use Rattle.merge_sets.specs.declared.finding.Finding.TheVariants.{Direct}
use Rattle.merge_sets.specs.World.{World}
use Rattle.merge_sets.specs.Merging as graph
use Rattle.merge_search.specs.Reports.{Root, AtSearched, Real, Complete}
use Rattle.merge_sets.specs.Graph.{IsWhole}
use Rattle.merge_set_table.specs.Table.{Numbered}
use Rattle.merge_set_table.specs.Parts.{IsPartAt}
use Rattle.merge_graph.specs.DocumentGraph.{AreOrigins}
use Rattle.merge_graph.specs.SetsIn.{IsSetIn, HasKnownConditions}
use Rattle.merge_conflicts.specs.Reports.{Reports, none, roots, postfix, IsFieldAt, AreReportsOf}
use Rattle.merge_document.specs.WrittenOut.{Apart}
use Rattle.merge_document.specs.Merging.{Same, DocumentMerges, Way, here, down}
use Rattle.merge_document.specs.Conflicts.{Tells, TellsEither, AreInOneSet, AreReal, IsPassed, AreTold, AreAll, IsTidyDocument}
use Rattle.merge_document.proofs.Fields.{own_field, one_field}
use Rattle.merge_document.proofs.Sets.{IsWorldOf, member_in}
use Rattle.merge_document.proofs.Transfer.{Of, stands_in, stands_whole, apart_out, apart_stand, conflict_at, exclusive_at, same_out, same_in, below_in, merges_in, merges_out}
use Rattle.merge_document.proofs.Trees.{Tree, tree, AreBoth, told, root_in, root_out, found_some}

module _ {S C : Type 0} (E : S → S → Bool) (schema : Catalog S C) (document : List (Definition S)) (numbers : List ℕ → Option ℕ) (m : Numbered S C) (w : World) (is : IsWorldOf E schema document numbers m w)
    (order : List ℕ) (origins : AreOrigins schema document numbers m w.fragments order)
    (sets : (p : Option (MetaTypeOf S C)) (set : List (Selection S)) → IsSetIn schema document p set → (s : ℕ) × Contains order s × IsPartAt schema numbers m s p set) where
  abbrev OfField : PlainEntry S C → Entry → Type 0
  OfField x a = Of E schema document numbers m w is x a

  -- two places of the graph are two of the document
  pub places_out : (s : ℕ) (a b : Entry) → Contains order s → graph.Apart w s a b
      → (p : Option (MetaTypeOf S C)) × (set : List (Selection S)) × IsSetIn schema document p set × (x : PlainEntry S C) × (y : PlainEntry S C) × Apart schema document p set x y × OfField x a × OfField y b
  places_out s a b c h = let o = origins.sets s c in let r = apart_out E schema document numbers m w is o.3 h in (o.0, o.1, o.2, r.0, r.1, r.2, r.3, r.4)

  both : (r : Root) → AtSearched w order r → AreBoth E schema document numbers m w is r
  both r h = let o = places_out h.0 r.left r.right h.1 (h.2).0 in ((o.3, o.6), (o.4, o.7))

  in_one_set : (r : Root) (t : PlainEntry S C × PlainEntry S C) → AtSearched w order r → IsFieldAt m.fields r.left t.0 → IsFieldAt m.fields r.right t.1 → AreInOneSet E schema document t.0 t.1
  in_one_set r t h i j =
      let o = places_out h.0 r.left r.right h.1 (h.2).0 in
      let e = one_field schema numbers m i o.6 in let f = one_field schema numbers m j o.7 in (
        o.0,
        o.1,
        o.2,
        subst (λ (z : PlainEntry S C). Apart schema document o.0 o.1 t.0 z) f (subst (λ (z : PlainEntry S C). Apart schema document o.0 o.1 z o.4) e o.5),
        subst (λ (z : PlainEntry S C). Same t.0 z) f (subst (λ (z : PlainEntry S C). Same z o.4) e (same_out E schema document numbers m w is o.6 o.7 (h.2).1)),
      )

  -- where the document's fields are tidy those of the search are
  pub are_tidy : IsTidyDocument schema document → AreTidy m.fields
  are_tidy tidy i a h = let (p, set, inside, stands) = origins.fields i a h in tidy (entry_under p a.field) (p, set, inside, stands, refl)

  module _ (found : List Finding) (real : Real w order found) where
    pub made : Tree E schema document numbers m w is false real.roots real.more
    made = tree E schema document numbers m w is real.shown (All-weaker (λ r. AtSearched w order r) (AreBoth E schema document numbers m w is) both real.roots real.placed)

    pub is_real : AreReal E schema document made.reports
    is_real = record {
      true_ones = made.true_ones;
      in_one_set = λ i d l.
          let t = get_or (roots made.reports) i d in
          let q = root_out m.fields made.are t (Contains-get_or (roots made.reports) i d l) in
          in_one_set (record { left = q.0; right = q.1 }) t (All-contains (λ r. AtSearched w order r) real.roots (record { left = q.0; right = q.1 }) real.placed (made.from q.0 q.1 q.2)) q.3 q.4;
    }

    -- what was found of two fields is told of them
    tells : (a b : Entry) (e : Bool) (x y : PlainEntry S C) → OfField x a → OfField y b → Contains found (Direct a b e) → Tells made.reports e x y
    tells a b e x y f g c =
        told m.fields made.are a b e x y (own_field schema numbers m f).field (own_field schema numbers m g).field
        (subst (λ (z : List Finding). Contains z (Direct a b e)) (real.grown ∙ sym made.writes) c)

    good : {a b : Entry} {x y : PlainEntry S C} → OfField x a → OfField y b → graph.Good found a b → (e : Bool) × TellsEither made.reports e x y
    good {a} {b} {x} {y} f g (inl h) = (h.0, inl (tells a b h.0 x y f g h.1))
    good {a} {b} {x} {y} f g (inr h) = (h.0, inr (tells b a h.0 y x g f h.1))

    way_in : {e e' : Bool} {x y : PlainEntry S C} {a b : Entry} → e' ≡ e → OfField x a → OfField y b → (v : Way E schema document e x y)
        → (way : graph.Way w e' a b) × (graph.Passes found way → IsPassed E schema document made.reports v)
    way_in {e} {e'} {x} {y} {a} {b} eq f g (here h) =
        (graph.here (conflict_at E schema document numbers m w is f g e' ∙ ap (λ (i : Bool). is_some (direct_of E schema i x y)) eq ∙ h), λ p. good f g p)
    way_in {e} {e'} {x} {y} {a} {b} eq f g (down h v) =
        let t = below_in E schema document numbers m w is f g h in
        let r = way_in (exclusive_at E schema document numbers m w is f g e' ∙ ap (λ (i : Bool). exclusive_of i x y) eq) t.3 t.4 v in
        (graph.down t.2 r.0, λ p. elim p [ inl q ↦ inl (good f g q) | inr q ↦ inr (r.1 q) ])

    module _ (not_all : 0 < length found → ((s : ℕ) → Contains order s → graph.SetMerges w s) → ⊥) where
      -- where something was found the document doesn't merge
      pub unmerged : 0 < length found → DocumentMerges E schema document → ⊥
      unmerged some h = not_all some (λ s c a b apart same.
          let o = places_out s a b c apart in
          let merge = h o.0 o.1 o.2 o.3 o.4 o.5 (same_out E schema document numbers m w is o.6 o.7 same) in
          merges_in E schema document numbers m w is refl o.6 o.7 merge)

      refuses : DocumentMerges E schema document → made.reports ≡ none
      refuses h = elim (found_some m.fields made.are) [
        | inl e ↦ e.1
        | inr l ↦ absurd (unmerged (subst (λ (z : List Finding). 0 < length z) (made.writes ∙ sym real.grown) l) h)
      ]

      module _ (complete : Complete w order found real.roots) where
        nothing_found : made.reports ≡ none → found ≡ []
        nothing_found silent = elim (found_some m.fields made.are) [
          | inl h ↦ real.grown ∙ sym made.writes ∙ ap postfix h.0
          | inr l ↦ absurd (clash made.numbered made.reports made.are silent l)
        ]
          where
            clash : (p : Reports Entry) (r : Reports (PlainEntry S C)) → AreReportsOf m.fields p r → r ≡ none → 0 < length (postfix p) → ⊥
            clash p none Rattle.merge_conflicts.specs.Reports.of_none silent l = absurd (omega (arith, l))
            clash p r (Rattle.merge_conflicts.specs.Reports.of_direct e f g h) silent l = cc
            clash p r (Rattle.merge_conflicts.specs.Reports.of_nested f g i h) silent l = cc

        whole : HasKnownConditions schema document → IsWhole w.sets order
        whole known s l = origins.whole known s (subst (λ (n : ℕ). s < n) is.many l)

        merging : HasKnownConditions schema document → made.reports ≡ none → DocumentMerges E schema document
        merging known silent p set i x y h same =
            let s = sets p set i in let t = apart_stand E schema document numbers m w is h in
            let a = stands_in E schema document numbers m w is (stands_whole E schema document numbers m w is (s.2).part t.0) (s.2).is in
            let b = stands_in E schema document numbers m w is (stands_whole E schema document numbers m w is (s.2).part t.1) (s.2).is in
            let one = same_in E schema document numbers m w is a.2 b.2 same in
            merges_out E schema document numbers m w is (complete.exact (whole known) (nothing_found silent) s.0 a.0 b.0 a.1 b.1 one) refl a.2 b.2

        pub is_told : AreTold E schema document made.reports
        is_told = record {
          silent = refuses;
          failing = λ x y h fails.
              let s = sets h.0 h.1 h.2 in
              let a = stands_in E schema document numbers m w is (stands_whole E schema document numbers m w is (s.2).part h.3) (s.2).is in
              let b = stands_in E schema document numbers m w is (stands_whole E schema document numbers m w is (s.2).part h.4) (s.2).is in
              let one = same_in E schema document numbers m w is a.2 b.2 h.5 in
              let fail = conflict_at E schema document numbers m w is a.2 b.2 false ∙ fails in
              elim (complete.failing s.0 a.0 b.0 s.1 a.1 b.1 one fail) [
                | inl t ↦ inl (tells a.0 b.0 false x y a.2 b.2 t.1)
                | inr t ↦ inr (tells b.0 a.0 false y x b.2 a.2 t.1)
              ];
          at_the_top = λ p set x y i c h same fails.
              let s = sets p set i in
              let a = member_in E schema document numbers m w is (s.2).is ((s.2).part.fields x c) in
              let b = stands_in E schema document numbers m w is (stands_whole E schema document numbers m w is (s.2).part h) (s.2).is in
              let at = (own_field schema numbers m a.2).field in let bt = (own_field schema numbers m b.2).field in
              let one = same_in E schema document numbers m w is a.2 b.2 same in
              let fail = conflict_at E schema document numbers m w is a.2 b.2 false ∙ fails in
              elim (complete.at_the_top s.0 a.0 b.0 s.1 a.1 b.1 one fail) [
                | inl r ↦ inl (root_in m.fields made.are a.0 b.0 x y at bt (made.to (record { left = a.0; right = b.0 }) r))
                | inr r ↦ inr (root_in m.fields made.are b.0 a.0 y x bt at (made.to (record { left = b.0; right = a.0 }) r))
              ];
        }

        pub is_all : HasKnownConditions schema document → AreAll E schema document made.reports
        is_all known = record {
          exact = (merging known, refuses);
          failing = is_told.failing;
          at_the_top = is_told.at_the_top;
          ways = λ x y h way.
              let s = sets h.0 h.1 h.2 in
              let a = stands_in E schema document numbers m w is (stands_whole E schema document numbers m w is (s.2).part h.3) (s.2).is in
              let b = stands_in E schema document numbers m w is (stands_whole E schema document numbers m w is (s.2).part h.4) (s.2).is in
              let v = way_in refl a.2 b.2 way in
              v.1 (complete.ways (whole known) s.0 a.0 b.0 a.1 b.1 (same_in E schema document numbers m w is a.2 b.2 h.5) v.0);
        }
