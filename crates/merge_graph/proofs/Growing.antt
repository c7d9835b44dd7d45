-- What was built stays right where a definition's set is added.
use Rattle.std.proofs.Common.{◌≡◌, ◌<◌, ◌≤◌, ◌+◌, ℕ, List, ◌++◌, length, map, get_or, Option, Some, true, slice_get, slice_set, length-set, length-append, sym, ap, subst, ◌∙◌, inl, inr, ◌⊎◌, arith}
use Rattle.std.specs.List.{Contains, flat_map, sum_by}
use Rattle.std.proofs.lemmas.List.Sums.{sum_by-append}
use Rattle.std.proofs.lemmas.Option.{slice_get_within}
use Rattle.std.proofs.lemmas.Bool.{cases_order, cases_eq}
use Rattle.language.specs.declared.tree.Definition.{Definition}
use Rattle.schema.specs.Catalog.{Catalog}
use Rattle.merge_field_pairs.specs.Entries.{PlainEntry, plain}
use Rattle.fragment_graph.specs.Spreads.{placed_spreads_of_all}
use Rattle.fragment_graph.proofs.Lists.{same_some, set_other, contains_at}
use Rattle.merge_set_table.specs.Names.{AreApart}
use Rattle.merge_set_table.specs.Once.{is_among}
use Rattle.merge_set_table.specs.Table.{Numbered, numbered, Extends, Falling}
use Rattle.merge_set_table.specs.Represents.{IsSetOf}
use Rattle.merge_set_table.specs.Adding.{AreWithin}
use Rattle.merge_set_table.specs.Nesting.{inner_measure, Measures}
use Rattle.merge_set_table.proofs.Nesting.{measures_less}
use Rattle.merge_set_table.proofs.Origins.{kept_field}
use Rattle.merge_graph.specs.declared.building.Building.{Building}
use Rattle.merge_graph.specs.Definitions.{type_round, selections_of}
use Rattle.merge_graph.specs.Sizes.{share_of, selections_share, depths_share, taken}
use Rattle.merge_graph.specs.SetsIn.{IsNodeIn, HasKnownConditions}
use Rattle.merge_graph.specs.Building.{stretch_of, order_at, AreStretches, AreSetsAt, IsSetOfDefinition, IsFragment, HasOrigin, AreKnown, AddsDefinition, AreNested, Built}
use Rattle.merge_graph.proofs.Stretches.{stretch_at, new_stretch, same_stretch, stays, still_within}
use Rattle.merge_graph.proofs.Shares.{joined_more, taken_more}
use Rattle.merge_graph.proofs.Renumbering.{AgreeOn, set_renumbered, set_more, part_more, spreads_inside}

less_or : (m n : ℕ) → (m < n) ⊎ (n ≤ m)
less_or m n = elim (cases_order m n) [
  | inl eq ↦ inr (omega (arith, eq))
  | inr o ↦ elim o [ inl lt ↦ inl lt | inr gt ↦ inr (omega (arith, gt)) ]
]

module _ {S C : Type 0} (schema : Catalog S C) (document : List (Definition S)) (numbers : List ℕ → Option ℕ) where
  pub fragment_more : (m m' : Numbered S C) (fragments : List ℕ) (name : List ℕ) (g : ℕ) → Extends m m' → IsFragment schema document numbers m fragments name g → IsFragment schema document numbers m' fragments name g
  fragment_more m m' fragments name g e f = record {
    set = f.set;
    stored = f.stored;
    place = f.place;
    last = f.last;
    is = set_more schema numbers m m' f.set (type_round schema f.last.is) (selections_of f.last.is) e f.is;
  }

  module _ (names : List ℕ → Option ℕ) (d : Definition S) (place n : ℕ) (b b' : Building S C) (built : Built schema document numbers b) (a : AddsDefinition schema names d place n b b') where
    sets_are : b'.table.sets.items ≡ a.grown.sets.items
    sets_are = ap (λ (m : Numbered S C). m.sets) a.notes.same

    fragments_are : b'.fragments.items ≡ b.fragments.items
    fragments_are = ap (λ v. v.items) a.notes.fragments

    pub extends : Extends (numbered b.table) (numbered b'.table)
    extends = subst (λ m. Extends (numbered b.table) m) (sym a.notes.same) a.adds.has.keeps.extends

    pub longer : length b.table.sets.items ≤ length b'.table.sets.items
    longer = extends.longer

    pub is_set : AgreeOn names numbers (placed_spreads_of_all (selections_of d)) → IsSetOfDefinition schema numbers (numbered b'.table) n d
    is_set agree =
        subst (λ m. IsSetOfDefinition schema numbers m n d) (sym a.notes.same)
        (set_renumbered schema names numbers (numbered a.grown) n (type_round schema d) (selections_of d) a.adds.has.is agree)

    pub is_low : n < length b'.table.sets.items
    is_low = subst (λ ss. n < length ss) (sym sets_are) (slice_get_within a.grown.sets.items n a.adds.has.is.row a.adds.has.is.stored)

    within : AreKnown numbers (length b.fragments.items) names → AreWithin names b.fragments.items (length b.table.sets.items)
    within k name g h = let l = (k.known name g h).1 in (l, built.low g l)

    falling : AreKnown numbers (length b.fragments.items) names → Falling b'.table.sets.items b'.fragments.items
    falling k =
        subst (λ fs. Falling b'.table.sets.items fs) (sym fragments_are)
        (subst (λ ss. Falling ss b.fragments.items) (sym sets_are) (a.adds.has.keeps.falls b.fragments.items (within k) built.falling))

    others : (p : ℕ) → (p ≡ place → ⊥) → slice_get b'.stretches.items p ≡ slice_get b.stretches.items p
    others p ne = ap (λ os. slice_get os p) a.notes.stretches ∙ set_other b.stretches.items place p (Some (length b.order.items, length b'.order.items)) ne

    -- the orders of the places, by what they were
    by_order : (P : List ℕ → List (Option (ℕ × ℕ)) → Type 0)
        → P (b.order.items ++ a.grown.order.items) (slice_set b.stretches.items place (Some (length b.order.items, length (b.order.items ++ a.grown.order.items)))) → P b'.order.items b'.stretches.items
    by_order P h =
        subst (λ os. P b'.order.items os) (sym a.notes.stretches)
        (subst (λ xs. P xs (slice_set b.stretches.items place (Some (length b.order.items, length xs)))) (sym a.notes.order) h)

    order_is : a.grown.order.items ≡ a.adds.more
    order_is = a.adds.order ∙ ap (λ xs. xs ++ a.adds.more) built.order

    -- what stands at the place, and at the others
    placed : order_at b' place ≡ a.adds.more
    placed =
        by_order (λ xs os. stretch_at xs os place ≡ a.adds.more) (new_stretch b.order.items a.grown.order.items b.stretches.items place a.notes.free built.within ∙ order_is)

    same_order : (p : ℕ) → (p ≡ place → ⊥) → order_at b' p ≡ order_at b p
    same_order p ne = by_order (λ xs os. stretch_at xs os p ≡ order_at b p) (same_stretch b.order.items a.grown.order.items b.stretches.items place a.notes.free built.within p ne)

    pub kept_order : (p k : ℕ) → is_among (order_at b p) k ≡ true → is_among (order_at b' p) k ≡ true
    kept_order p k h = by_order (λ xs os. is_among (stretch_at xs os p) k ≡ true) (stays b.order.items a.grown.order.items b.stretches.items place a.notes.free built.within p k h)

    new_order : (k : ℕ) → is_among a.adds.more k ≡ true → is_among (order_at b' place) k ≡ true
    new_order k h = subst (λ xs. is_among xs k ≡ true) (sym placed) h

    pub new_listed : is_among (order_at b' place) n ≡ true
    new_listed = new_order n a.adds.listed

    pub new_sets : AgreeOn names numbers (placed_spreads_of_all (selections_of d)) → AreSetsAt schema numbers place d b'
    new_sets agree q inner i =
        let h = a.adds.found q inner i in (
          h.number,
          new_order h.number h.among,
          record {
            type = h.type;
            set = h.set;
            is = subst (λ m. IsSetOf schema numbers m h.number h.type h.set) (sym a.notes.same)
                (set_renumbered schema names numbers (numbered a.grown) h.number h.type h.set h.is (λ x c. agree x (spreads_inside schema h.stands x c)));
            part = h.part;
          },
        )

    pub kept_sets : (p : ℕ) (x : Definition S) → AreSetsAt schema numbers p x b → AreSetsAt schema numbers p x b'
    kept_sets p x h q inner i =
        let (k, among, is) = h q inner i in (k, kept_order p k among, part_more schema numbers (numbered b.table) (numbered b'.table) k q inner extends is)

    abbrev Stands : ℕ → Type 0
    Stands k = (p : ℕ) × (is_among (order_at b' p) k ≡ true)

    listed : (g : ℕ) → g < length b'.fragments.items → Stands (get_or b'.fragments.items g 0)
    listed g l =
        let w = built.listed g (subst (λ (fs : List ℕ). g < length fs) fragments_are l) in
        subst (λ (fs : List ℕ). Stands (get_or fs g 0)) (sym fragments_are) (w.0, kept_order w.0 (get_or b.fragments.items g 0) w.1)

    module _ (at : slice_get document place ≡ Some d) (are_known : AreKnown numbers (length b.fragments.items) names) (agree : AgreeOn names numbers (placed_spreads_of_all (selections_of d))) where
      added : (p : ℕ) (ends : ℕ × ℕ) (x : Definition S) → slice_get b'.stretches.items p ≡ Some (Some ends) → slice_get document p ≡ Some x → AreSetsAt schema numbers p x b'
      added p ends x h there = elim (cases_eq p place) [
        | inl same ↦ subst (λ (q : ℕ). AreSetsAt schema numbers q x b') (sym same)
            (subst (λ (y : Definition S). AreSetsAt schema numbers place y b') (same_some d x (sym at ∙ ap (λ (q : ℕ). slice_get document q) (sym same) ∙ there)) (new_sets agree))
        | inr ne ↦ kept_sets p x (built.added p ends x (sym (others p ne) ∙ h) there)
      ]

      stands : Contains document d
      stands = contains_at document place d at

      whole : HasKnownConditions schema document → (k : ℕ) → k < length b'.table.sets.items → Stands k
      whole known k l = elim (less_or k (length b.table.sets.items)) [
        | inl lt ↦ (let w = built.whole known k lt in (w.0, kept_order w.0 k w.1))
        | inr low ↦ (place, new_order k (a.adds.from.whole (known d stands) k low (subst (λ ss. k < length ss) sets_are l)))
      ]

      sets_from : (k p : ℕ) → is_among (order_at b' p) k ≡ true → HasOrigin schema document numbers (numbered b'.table) k
      sets_from k p h = elim (cases_eq p place) [
        | inl same ↦
            (let (q, inner, i, is) = a.adds.from.sets k (subst (λ xs. is_among xs k ≡ true) placed (subst (λ (r : ℕ). is_among (order_at b' r) k ≡ true) same h)) in (
              q,
              inner,
              (d, stands, i),
              subst (λ m. IsSetOf schema numbers m k q inner) (sym a.notes.same)
                  (set_renumbered schema names numbers (numbered a.grown) k q inner is (λ x c. agree x (spreads_inside schema i x c))),
            ))
        | inr ne ↦
            (let (q, inner, i, is) = built.sets_from k p (subst (λ xs. is_among xs k ≡ true) (same_order p ne) h) in
            (q, inner, i, set_more schema numbers (numbered b.table) (numbered b'.table) k q inner extends is))
      ]

      fields_from : (k : ℕ) (x : PlainEntry S C) → slice_get (map plain b'.table.fields.items) k ≡ Some x → IsNodeIn schema document x
      fields_from k x h =
          let now : slice_get (map plain a.grown.fields.items) k ≡ Some x = subst (λ (m : Numbered S C). slice_get m.fields k ≡ Some x) a.notes.same h in
          elim (less_or k (length b.table.fields.items)) [
            | inl lt ↦ built.fields_from k x (kept_field b.table a.grown a.adds.has.keeps.extends k x lt now)
            | inr low ↦ (let f = a.adds.from.fields k x low now in (f.type, f.inner, (d, stands, f.inside), f.stands))
          ]

      pub more_taken : (share : Definition S → ℕ) → taken share b'.stretches.items document ≡ taken share b.stretches.items document + share d
      more_taken share =
          ap (λ os. taken share os document) a.notes.stretches ∙ taken_more share b.stretches.items document place (length b.order.items, length b'.order.items) d a.notes.free at

      joined : (F : List ℕ → ℕ) → ((xs ys : List ℕ) → F (xs ++ ys) ≡ F xs + F ys)
          → F (flat_map (stretch_of b'.order.items) b'.stretches.items) ≡ F (flat_map (stretch_of b.order.items) b.stretches.items) + F a.adds.more
      joined F joins =
          by_order (λ xs os. F (flat_map (stretch_of xs) os) ≡ F (flat_map (stretch_of b.order.items) b.stretches.items) + F a.grown.order.items)
          (joined_more F joins b.order.items a.grown.order.items b.stretches.items place a.notes.free built.within)
          ∙ ap (λ xs. F (flat_map (stretch_of b.order.items) b.stretches.items) + F xs) order_is

      measures : (f : ℕ → ℕ) (g : ℕ → ℕ → ℕ → ℕ) → Measures schema (numbered b'.table) f g → Measures schema (numbered b.table) f g
      measures f g m = measures_less schema (numbered b.table) (numbered b'.table) f g extends m

      nested : HasKnownConditions schema document → AreNested schema document b'
      nested known =
          let had = built.nests known in
          let new = a.adds.nests (known d stands) in
          record {
            count = omega (arith, had.count, new.count, ap length sets_are, joined length length-append);
            few = λ f g m. omega (
              arith,
              had.few f g (measures f g m),
              new.few f g (subst (λ n. Measures schema n f g) a.notes.same m),
              joined (sum_by f) (sum_by-append f),
              ap (inner_measure g) a.notes.inner,
              more_taken depths_share,
            );
            fragments = λ f g m. omega (arith, had.fragments f g (measures f g m), ap (sum_by f) fragments_are, more_taken selections_share);
          }

      pub built_definition : Built schema document numbers b'
      built_definition = record {
        apart = subst AreApart (sym (ap (λ (m : Numbered S C). m.responses) a.notes.same)) (a.adds.has.keeps.apart built.apart);
        order = a.notes.empty;
        falling = falling are_known;
        low = λ g l.
            let long : length b'.fragments.items ≡ length b.fragments.items = ap length fragments_are in
            let old = built.low g (omega (arith, l, long)) in
            let more = longer in
            subst (λ (fs : List ℕ). get_or fs g 0 < length b'.table.sets.items) (sym fragments_are) (omega (arith, old, more));
        sized = ap length a.notes.stretches ∙ length-set b.stretches.items place (Some (length b.order.items, length b'.order.items)) ∙ built.sized;
        within = by_order AreStretches (still_within b.order.items a.grown.order.items b.stretches.items place a.notes.free built.within);
        whole = whole;
        listed = listed;
        added = added;
        fragments = λ name g h l.
            subst (λ (fs : List ℕ). IsFragment schema document numbers (numbered b'.table) fs name g) (sym fragments_are)
            (fragment_more (numbered b.table) (numbered b'.table) b.fragments.items name g extends (built.fragments name g h (subst (λ (fs : List ℕ). g < length fs) fragments_are l)));
        named = λ g l. built.named g (subst (λ (fs : List ℕ). g < length fs) fragments_are l);
        sets_from = sets_from;
        fields_from = fields_from;
        size = λ known.
            let had = built.size known in
            let grown = a.adds.size (known d stands) in
            let noted = a.notes.size in
            let joined : length (flat_map (stretch_of b'.order.items) b'.stretches.items) ≡ length (flat_map (stretch_of b.order.items) b.stretches.items) + length a.grown.order.items =
            by_order (λ xs os. length (flat_map (stretch_of xs) os) ≡ length (flat_map (stretch_of b.order.items) b.stretches.items) + length a.grown.order.items)
            (joined_more length length-append b.order.items a.grown.order.items b.stretches.items place a.notes.free built.within) in
            omega (arith, had, grown, noted, joined, more_taken share_of);
        nests = nested;
      }
