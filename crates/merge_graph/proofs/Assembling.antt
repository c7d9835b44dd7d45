-- How a document's sets are put together.
use Rattle.std.proofs.Common.{◌≡◌, ◌==◌, ◌<◌, ◌≤◌, ◌+◌, ℕ, List, [], ◌∷◌, length, length-append, map, get_or, Option, Some, None, is_some, true, cond, slice_get, option_and_then, refl, sym, ap, subst, ◌∙◌, inl, inr, arith}
use Rattle.std.specs.List.{Contains, sum_by}
use Rattle.std.proofs.lemmas.List.{nil_from_length}
use Rattle.std.proofs.lemmas.Bool.{cases_order, eqb-true}
use Rattle.std.proofs.lemmas.Map.Views.{Contains-from_any}
use Rattle.std.proofs.lemmas.List.Elements.{All-nil}
use Rattle.std.proofs.lemmas.Slice.Eq.{bytes_eq-Decides}
use Rattle.std.proofs.lemmas.Option.{slice_get_within, slice_get-get_or}
use Rattle.language.specs.declared.tree.Definition.{Definition}
use Rattle.language.specs.declared.tree.Definition.TheVariants as definition
use Rattle.schema.specs.Catalog.{Catalog}
use Rattle.merge_field_pairs.specs.Entries.{plain}
use Rattle.fragment_graph.specs.declared.cycles.DocumentCycles.{DocumentCycles}
use Rattle.fragment_graph.specs.DocumentCycles.{NameSpreads}
use Rattle.fragment_graph.specs.Numbers.{IsNamed}
use Rattle.fragment_graph.specs.Spreads.{PlacedSpread, PlacedSpreads, placed_spreads_of_all, spreads_named}
use Rattle.fragment_graph.proofs.Lists.{same_some, none_some, contains_get, get_some, set_other}
use Rattle.merge_sets.specs.declared.graph.Graph.{Graph}
use Rattle.merge_set_table.specs.Once.{is_among}
use Rattle.merge_set_table.specs.Sizes.{table_size}
use Rattle.merge_set_table.specs.Table.{numbered, height, IsWithin, Falling}
use Rattle.merge_set_table.proofs.Lists.{among_from_get}
use Rattle.merge_set_table.proofs.Representing.{extends_self}
use Rattle.merge_graph.specs.declared.building.Building.{Building}
use Rattle.merge_graph.specs.declared.judge.FieldJudge.{FieldJudge}
use Rattle.merge_graph.specs.Definitions.{selections_of, IsLast}
use Rattle.merge_graph.specs.Building.{rank_in, stretch_of, order_at, AreSetsAt, AreKnown, AddsDefinition, AddsFragment, IsNothing, Built}
use Rattle.merge_graph.specs.TableGraph.{AreListed, IsGraphOfTable}
use Rattle.merge_graph.specs.DocumentGraph.{IsGraphOf}
use Rattle.merge_graph.specs.Assembly.{AreRanked, KnowsAll, AreInPlaces, joined_order, AreFree, HasSetAt, AddsMissing, AddsOthers, IsComplete}
use Rattle.merge_graph.proofs.Renumbering.{AgreeOn, in_flat, part_more}
use Rattle.merge_graph.proofs.Growing.{built_definition, extends, kept_order, new_sets}
use Rattle.merge_graph.proofs.Stretches.{among_all, among_some}
use Rattle.merge_set_table.specs.Nesting.{inner_measure}
use Rattle.merge_graph.specs.Sizes.{graph_size, share_of, selections_share, depths_share}
use Rattle.merge_graph.proofs.Shares.{nothing_joined, taken_few}
use Rattle.merge_graph.proofs.Few.{few_numbers}
use Rattle.merge_graph.proofs.Lasts.{last_inside}
use Rattle.merge_graph.proofs.Naming.{built_fragment}
use Rattle.merge_graph.proofs.Ranks.{rank_defined, defined_rank, rank_single, rank_falls}

-- two options that are there together, with the same
agree_by : (o p : Option ℕ) → ((g : ℕ) → o ≡ Some g → p ≡ Some g) → ((g : ℕ) → p ≡ Some g → o ≡ Some g) → o ≡ p
agree_by None None to back = refl
agree_by None (Some g) to back = absurd (none_some g (back g refl))
agree_by (Some g) p to back = sym (to g refl)

-- nothing stands at a free place
nothing_at : (order : List ℕ) (o : Option (Option (ℕ × ℕ))) → ((e : Option (ℕ × ℕ)) → o ≡ Some e → e ≡ None) → (k : ℕ) → is_among (stretch_of order (option_and_then (λ e. e) o)) k ≡ true → ⊥
nothing_at order None free k h = cc
nothing_at order (Some None) free k h = cc
nothing_at order (Some (Some ends)) free k h = none_some ends (sym (free (Some ends) refl))

-- an option that is there
ends_of : {X : Type 0} (o : Option X) → is_some o ≡ true → (e : X) × (o ≡ Some e)
ends_of None some = cc
ends_of (Some e) some = (e, refl)

module _ {S : Type 0} where
  -- a definition has one name
  one_name : (name other : List ℕ) (d : Definition S) → IsNamed name d → IsNamed other d → name ≡ other
  one_name name other (definition.Operation o) h k = absurd h
  one_name name other (definition.Fragment f) h k = sym h ∙ k

  one_last : (document : List (Definition S)) (name other : List ℕ) (place : ℕ) → IsLast document name place → IsLast document other place → name ≡ other
  one_last document name other place h k = one_name name other k.is (subst (IsNamed name) (same_some h.is k.is (sym h.stands ∙ k.stands)) h.named) k.named

  -- a definition of the name has the name's spreads
  named_all : (name : List ℕ) (d : Definition S) → IsNamed name d → spreads_named name d ≡ placed_spreads_of_all (selections_of d)
  named_all name (definition.Operation o) h = absurd h
  named_all name (definition.Fragment f) h = ap (λ t. cond t (placed_spreads_of_all f.item.selection_set.items) []) ((bytes_eq-Decides f.item.name.item.now name).1 h)

  last_spreads : (document : List (Definition S)) (name : List ℕ) (place : ℕ) (last : IsLast document name place) (x : PlacedSpread) → Contains (placed_spreads_of_all (selections_of last.is)) x → NameSpreads document name x.name
  last_spreads document name place last x c = (
    x,
    in_flat (spreads_named name) document place last.is x last.stands (subst (λ (zs : PlacedSpreads). Contains zs x) (sym (named_all name last.is last.named)) c),
    refl,
  )

module _ {S C : Type 0} where
  pub joined_listed : (b : Building S C) (order : List ℕ) → order ≡ joined_order b → AreInPlaces b → AreListed b.fragments.items order
  joined_listed b order is places g l =
      let at = places g l in let k = get_or b.fragments.items g 0 in
      subst (λ xs. is_among xs k ≡ true) (sym is) (among_all b.order.items b.stretches.items at.0 k at.1)

  -- what stands at a place stands in the whole order, and back
  joined_contains : (b : Building S C) (p k : ℕ) → is_among (order_at b p) k ≡ true → Contains (joined_order b) k
  joined_contains b p k h = Contains-from_any {eq = λ x y. y == x} (λ x y e. sym (eqb-true y x e)) k (joined_order b) (among_all b.order.items b.stretches.items p k h)

  joined_place : (b : Building S C) (k : ℕ) → Contains (joined_order b) k → (p : ℕ) × (is_among (order_at b p) k ≡ true)
  joined_place b k c = among_some b.order.items b.stretches.items k (let g = contains_get (joined_order b) k c in among_from_get (joined_order b) g.0 k g.1)

  pub built_none : (schema : Catalog S C) (document : List (Definition S)) (numbers : List ℕ → Option ℕ) (b : Building S C) → IsNothing (length document) b → Built schema document numbers b
  built_none schema document numbers b h =
      let no_fragment : (g : ℕ) → g < length b.fragments.items → ⊥ = λ g l. let none = ap length h.fragments in omega (arith, l, none) in
      record {
        apart = h.apart;
        order = h.order;
        falling = subst (λ ss. Falling ss b.fragments.items) (sym h.sets) (λ s. (All-nil (λ a. height a ≤ s), All-nil (IsWithin b.fragments.items s)));
        low = λ g l. absurd (no_fragment g l);
        sized = h.sized;
        within = λ p start end at. absurd (none_some (start, end) (sym (h.free p (Some (start, end)) at)));
        whole = λ known k l. let none = ap length h.sets in absurd (omega (arith, l, none));
        listed = λ g l. absurd (no_fragment g l);
        added = λ p ends d at there. absurd (none_some ends (sym (h.free p (Some ends) at)));
        fragments = λ name g k l. absurd (no_fragment g l);
        named = λ g l. absurd (no_fragment g l);
        sets_from = λ k p among. absurd (nothing_at b.order.items (slice_get b.stretches.items p) (h.free p) k among);
        fields_from = λ k a at. absurd (none_some a (subst (λ fs. slice_get (map plain fs) k ≡ Some a) h.fields at));
        size = λ known. let none = h.size in omega (arith, none, ap length (nothing_joined b.order.items b.stretches.items h.free));
        nests = λ known.
            let none = nothing_joined b.order.items b.stretches.items h.free in
            let inner : b.table.inner.items ≡ [] = nil_from_length b.table.inner.items (omega (arith, h.size)) in
            record {
              count = ap length h.sets ∙ sym (ap length none);
              few = λ f g m. omega (arith, ap (sum_by f) none, ap (inner_measure g) inner);
              fragments = λ f g m. omega (arith, ap (sum_by f) h.fragments);
            };
      }

  -- at first each place is free
  pub free_none : (document : List (Definition S)) (numbers : List ℕ → Option ℕ) (b : Building S C) → IsNothing (length document) b → AreFree document numbers b
  free_none document numbers b h name g place rank low last =
      let inside = last_inside document name place last in
      let sized = h.sized in
      let there = get_some b.stretches.items place (omega (arith, inside, sized)) in
      there.1 ∙ ap (λ o. Some o) (h.free place there.0 there.1)

  -- where a fragment got its set, the places of those behind it stay free
  pub free_next : (document : List (Definition S)) (numbers : List ℕ → Option ℕ) (schema : Catalog S C) (names : List ℕ → Option ℕ) (b b' : Building S C) (name : List ℕ) (place : ℕ) (d : Definition S)
      → IsLast document name place → numbers name ≡ Some (length b.fragments.items) → AddsFragment schema names d place b b' → AreFree document numbers b → AreFree document numbers b'
  free_next document numbers schema names b b' name place d last rank a free other g p ranked low its =
      let longer = ap (λ (z : Building S C). length z.fragments.items) a.is ∙ ap length a.pushed ∙ length-append b.fragments.items (a.set ∷ []) in
      let one : p ≡ place → name ≡ other = λ same. one_last document name other p (subst (IsLast document name) (sym same) last) its in
      let apart : p ≡ place → ⊥ = λ same. let equal = same_some (length b.fragments.items) g (sym rank ∙ ap numbers (one same) ∙ ranked) in omega (arith, equal, low, longer) in
      ap (λ (z : Building S C). slice_get z.stretches.items p) a.is ∙ ap (λ os. slice_get os p) a.adds.notes.stretches
      ∙ set_other b.stretches.items place p (Some (length b.order.items, length a.middle.order.items)) apart
      ∙ free other g p ranked (omega (arith, low, longer)) its

  pub agree_next : (schema : Catalog S C) (document : List (Definition S)) (c : DocumentCycles) (names : List ℕ → Option ℕ) (b : Building S C) (name : List ℕ) (place : ℕ) (last : IsLast document name place)
      → AreRanked document c → Built schema document (rank_in c) b → rank_in c name ≡ Some (length b.fragments.items)
      → AreKnown (rank_in c) (length b.fragments.items) names → AgreeOn names (rank_in c) (placed_spreads_of_all (selections_of last.is))
  agree_next schema document c names b name place last ranked built rank k x within =
      agree_by (names x.name) (rank_in c x.name)
      (λ g h. (k.known x.name g h).0)
      (λ g h. k.knows x.name g h (rank_falls document c ranked.searched ranked.clean name x.name (length b.fragments.items) g rank h (last_spreads document name place last x within)))

  pub fragment_added : (schema : Catalog S C) (document : List (Definition S)) (c : DocumentCycles) (names : List ℕ → Option ℕ) (b b' : Building S C) (name : List ℕ) (place : ℕ) (d : Definition S)
      → AreRanked document c → IsLast document name place → Built schema document (rank_in c) b → rank_in c name ≡ Some (length b.fragments.items)
      → AreKnown (rank_in c) (length b.fragments.items) names → d ≡ get_or document place d → AddsFragment schema names d place b b' → Built schema document (rank_in c) b'
  fragment_added schema document c names b b' name place d ranked last built rank k is added =
      let at : slice_get document place ≡ Some d = slice_get-get_or document place d (last_inside document name place last) ∙ ap (λ x. Some x) (sym is) in
      built_fragment schema document (rank_in c) (rank_single document c ranked.searched) names name place last b b' built
      (subst (λ (x : Definition S). AddsFragment schema names x place b b') (same_some d last.is (sym at ∙ last.stands)) added)
      k (agree_next schema document c names b name place last ranked built rank k) rank

  module _ (schema : Catalog S C) (document : List (Definition S)) (numbers : List ℕ → Option ℕ) where
    agree_everywhere : (names : List ℕ → Option ℕ) (b : Building S C) → KnowsAll numbers b.fragments.items → AreKnown numbers (length b.fragments.items) names → (spreads : PlacedSpreads) → AgreeOn names numbers spreads
    agree_everywhere names b all k spreads x c =
        agree_by (names x.name) (numbers x.name) (λ g h. (k.known x.name g h).0) (λ g h. k.knows x.name g h (all x.name g h))

    pub missing_added : (names : List ℕ → Option ℕ) (d : Definition S) (place n : ℕ) (b b' : Building S C) → slice_get document place ≡ Some d → AreKnown numbers (length b.fragments.items) names → AddsDefinition schema names d place n b b' → KnowsAll numbers b.fragments.items → Built schema document numbers b → AddsMissing schema document numbers place b b'
    missing_added names d place n b b' at k a all built =
        let agree = agree_everywhere names b all k (placed_spreads_of_all (selections_of d)) in
        record {
          built = built_definition schema document numbers names d place n b b' built a at k agree;
          extends = extends schema document numbers names d place n b b' built a;
          fragments = ap (λ v. v.items) a.notes.fragments;
          kept = kept_order schema document numbers names d place n b b' built a;
          has = λ x there. subst (λ (y : Definition S). AreSetsAt schema numbers place y b') (same_some d x (sym at ∙ there)) (new_sets schema document numbers names d place n b b' built a agree);
        }

    pub missing_there : (place : ℕ) (o : Option (ℕ × ℕ)) (b : Building S C) → slice_get b.stretches.items place ≡ Some o → is_some o ≡ true → Built schema document numbers b → AddsMissing schema document numbers place b b
    missing_there place o b at some built =
        let (ends, there) = ends_of o some in
        let is : slice_get b.stretches.items place ≡ Some (Some ends) = at ∙ ap (λ x. Some x) there in
        record {
          built = built;
          extends = extends_self (numbered b.table);
          fragments = refl;
          kept = λ p k h. h;
          has = λ d stands. built.added place ends d is stands;
        }

    pub others_none : (b : Building S C) → Built schema document numbers b → AddsOthers schema document numbers 0 b b
    others_none b built = record { built = built; fragments = refl; has = λ p l. absurd (omega (arith, l)) }

    pub others_next : (place : ℕ) (b b' b'' : Building S C) → AddsOthers schema document numbers place b b' → (KnowsAll numbers b'.fragments.items → Built schema document numbers b' → AddsMissing schema document numbers place b' b'') → KnowsAll numbers b.fragments.items → AddsOthers schema document numbers (place + 1) b b''
    others_next place b b' b'' had next all =
        let new = next (subst (KnowsAll numbers) (sym had.fragments) all) had.built in
        record {
          built = new.built;
          fragments = new.fragments ∙ had.fragments;
          has = λ p l. elim (cases_order p place) [
            | inl eq ↦ subst (λ (q : ℕ). HasSetAt schema document numbers q b'') (sym eq) new.has
            | inr o ↦ elim o [
              | inl lt ↦ (λ d there q inner i. let s = had.has p lt d there q inner i in (s.0, new.kept p s.0 s.1, part_more schema numbers (numbered b'.table) (numbered b''.table) s.0 q inner new.extends s.2))
              | inr gt ↦ absurd (omega (arith, l, gt))
            ]
          ];
        }

    pub others_all : (place : ℕ) (b b' : Building S C) → length document ≤ place → AddsOthers schema document numbers place b b' → AddsOthers schema document numbers (length document) b b'
    others_all place b b' far added = record { built = added.built; fragments = added.fragments; has = λ p l. added.has p (omega (arith, l, far)) }

    pub complete : (b b' : Building S C) → KnowsAll numbers b.fragments.items → AddsOthers schema document numbers (length document) b b' → IsComplete schema document numbers b'
    complete b b' all added = record {
      built = added.built;
      all = subst (KnowsAll numbers) (sym added.fragments) all;
      has = λ d c. let k = contains_get document d c in (k.0, added.has k.0 (slice_get_within document k.0 d k.1) d k.1);
    }

  pub graph_is : (schema : Catalog S C) (document : List (Definition S)) (c : DocumentCycles) (b : Building S C) (g : Graph (FieldJudge S C))
      → AreRanked document c → IsComplete schema document (rank_in c) b → IsGraphOfTable schema (numbered b.table) b.fragments.items (joined_order b) g
      → graph_size g + length b.table.order.items ≡ table_size b.table + length (joined_order b) → g.inner.items ≡ b.table.inner.items → IsGraphOf schema document g
  graph_is schema document c b g ranked done is size inner = record {
    table = numbered b.table;
    numbers = rank_in c;
    fragment_sets = b.fragments.items;
    order = joined_order b;
    is = is;
    apart = done.built.apart;
    defined = λ name. ((λ f. rank_defined document c ranked.searched name f.0 f.1), defined_rank document c ranked.searched name);
    single = rank_single document c ranked.searched;
    fragments = λ name f h. done.built.fragments name f h (done.all name f h);
    sets = λ p set i. let at = done.has i.0 i.1 in let s = at.1 p set i.2 in (s.0, joined_contains b at.0 s.0 s.1, s.2);
    origins = record {
      sets = λ k among. let at = joined_place b k among in done.built.sets_from k at.0 at.1;
      fields = done.built.fields_from;
      few = few_numbers document c ranked.searched b.fragments.items done.built.named;
      whole = λ known k l. let at = done.built.whole known k l in joined_contains b at.0 k at.1;
    };
    size = λ known. let taken = done.built.size known in omega (arith, taken, size, taken_few share_of b.stretches.items document);
    nests = λ known. let n = done.built.nests known in record {
      count = n.count;
      few = λ f parts m. omega (arith, n.few f parts m, ap (inner_measure parts) inner, taken_few depths_share b.stretches.items document);
      fragments = λ f parts m. omega (arith, n.fragments f parts m, taken_few selections_share b.stretches.items document);
    };
  }
