-- What each step adds, put together.
use Rattle.std.proofs.Common.{◌≡◌, ◌⊎◌, ℕ, suc, ◌<◌, ◌≤◌, List, [], ◌∷◌, ◌++◌, length, Option, Some, None, slice_get, refl, sym, ap, subst, ◌∙◌, arith, inl, inr, ◌==◌, append_assoc, append-nil, length-append}
use Rattle.std.specs.List.{All, Contains}
use Rattle.std.specs.Option.{option_map_or}
use Rattle.std.specs.declared.vec.Vec.{Vec}
use Rattle.std.specs.declared.alloc.Global.{Global}
use Rattle.std.proofs.lemmas.List.Elements.{All-append, All-weaker, All-nil, All-cons, Contains-append_left, Contains-append_right, Contains-append_cases, Contains-push}
use Rattle.std.proofs.lemmas.List.Folds.{list_any-append}
use Rattle.std.proofs.lemmas.Option.{slice_get_past, slice_get_within}
use Rattle.std.proofs.lemmas.Bool.{cases_order, or_left, or_right}
use Rattle.language.specs.declared.tree.Selection.{Selection}
use Rattle.language.specs.SelectionsInside.{all_inside}
use Rattle.language.specs.declared.tree.Selection.TheVariants as selection
use Rattle.language.specs.declared.tree.Field.{Field}
use Rattle.language.specs.declared.tree.FragmentSpread.{FragmentSpread}
use Rattle.language.specs.declared.tree.InlineFragment.{InlineFragment}
use Rattle.meta.specs.declared.kinds.MetaTypeOf.{MetaTypeOf}
use Rattle.schema.specs.Catalog.{Catalog}
use Rattle.merge_field_pairs.specs.Entries.{PlainEntry}
use Rattle.merge_field_pairs.specs.OwnFields.{Placed, entry_under, type_inside, type_below}
use Rattle.merge_sets.specs.declared.node.Entry.{Entry as OwnField}
use Rattle.merge_set_table.specs.declared.table.NumberedSet.{NumberedSet}
use Rattle.merge_set_table.specs.declared.table.Table.{Table}
use Rattle.merge_set_table.specs.Once.{is_among}
use Rattle.merge_set_table.specs.Table.{numbered, IsOwnField, IsWithin, Falling, height}
use Rattle.merge_set_table.specs.Represents.{Represents, nothing, join, leaf, field, spread, unknown, inline}
use Rattle.merge_set_table.specs.Adding.{AreWithin, AddsSpread, HasSame, BeginsPart, EndsPart, PushesField, ComesFrom, Keeps, AddsParts, HasSet, AddsFor, AddsSetFor, IsHeld, Adds, AddsSet}
use Rattle.merge_set_table.proofs.Counts.{count_leaf, count_field, count_spread, count_inline, count_append, one_more}
use Rattle.merge_set_table.proofs.Depths.{depths_field, depths_inline}
use Rattle.merge_set_table.proofs.Nesting.{nests_none, nests_then, nests_alone, nests_field, nests_part}
use Rattle.merge_set_table.specs.Depths.{depths}
use Rattle.merge_set_table.proofs.Lists.{get_front, get_last, same_some}
use Rattle.merge_set_table.specs.Inside.{IsInside, below_field, of_inline, type_entered, IsDeeper, of_field, of_fragment, IsConditionKnown}
use Rattle.merge_set_table.specs.Parts.{IsPartOf}
use Rattle.merge_set_table.proofs.Partial.{part_itself, part_first, part_last, part_inline}
use Rattle.merge_set_table.proofs.Representing.{extends_self, extends_then, represents_more, set_more}
use Rattle.merge_set_table.proofs.Origins.{deeper_in, deeper_inside, known_inside, front, Front, here, there, fields_inside, fields_none, fields_then, fields_pushed, comes_none, comes_then, comes_inside}
use Rattle.merge_set_table.proofs.Nodes.{only_field, only_inline, no_field, no_inline, spread_no_field, spread_no_inline}

abbrev pub Low : ℕ → OwnField → Type 0
Low n a = height a ≤ n

pub low_more : (m n : ℕ) (own : List OwnField) → m ≤ n → All (Low m) own → All (Low n) own
low_more m n own l all = All-weaker (Low m) (Low n) (λ a h. omega (arith, h, l)) own all

pub within_more : (numbers : List ℕ → Option ℕ) (fragments : List ℕ) (m n : ℕ) → m ≤ n → AreWithin numbers fragments m → AreWithin numbers fragments n
within_more numbers fragments m n l w = λ name g h. let i = w name g h in let k = i.1 in (i.0, omega (arith, k, l))

pub falling_push : (sets : List NumberedSet) (row : NumberedSet) (fragments : List ℕ) → Falling sets fragments → All (Low (length sets)) row.own.items → All (IsWithin fragments (length sets)) row.spreads.items → Falling (sets ++ row ∷ []) fragments
falling_push sets row fragments f own to s =
    let At : Option NumberedSet → Type 0 = λ o. All (Low s) (option_map_or (λ n. n.own.items) o []) × All (IsWithin fragments s) (option_map_or (λ n. n.spreads.items) o []) in
    elim (cases_order s (length sets)) [
      | inl eq ↦ subst At (subst (λ (k : ℕ). Some row ≡ slice_get (sets ++ row ∷ []) k) (sym eq) (sym (get_last sets row)))
          (subst (λ (k : ℕ). All (Low k) row.own.items × All (IsWithin fragments k) row.spreads.items) (sym eq) (own, to))
      | inr o ↦ elim o [
        | inl l ↦ subst At (sym (get_front sets (row ∷ []) s l)) (f s)
        | inr g ↦ subst At (sym (slice_get_past (sets ++ row ∷ []) s (omega (arith, g, length-append sets (row ∷ []))))) (All-nil (Low s), All-nil (IsWithin fragments s))
      ]
    ]

module _ {S C : Type 0} (schema : Catalog S C) (numbers : List ℕ → Option ℕ) where
  keeps_self : (t : Table S C) → Keeps numbers t t
  keeps_self t = record { extends = extends_self (numbered t); apart = λ a. a; falls = λ fragments w f. f }

  pub keeps_then : (s t u : Table S C) → Keeps numbers s t → Keeps numbers t u → Keeps numbers s u
  keeps_then s t u d e = record {
    extends = extends_then d.extends e.extends;
    apart = λ a. e.apart (d.apart a);
    falls = λ fragments w f. e.falls fragments (within_more numbers fragments (length s.sets.items) (length t.sets.items) d.extends.longer w) (d.falls fragments w f);
  }

  keeps_pushed : (o : PlainEntry S C) (below : Option ℕ) (part part' : NumberedSet) (t t' : Table S C) → PushesField o below part part' t t' → Keeps numbers t t'
  keeps_pushed o below part part' t t' pushed = record {
    extends = pushed.extends;
    apart = pushed.apart;
    falls = λ fragments w f. subst (λ z. Falling z fragments) (sym pushed.sets) f;
  }

  -- What each step adds to a set.
  parts_none : (p : Option (MetaTypeOf S C)) (part : NumberedSet) (t : Table S C) → AddsParts schema numbers p [] part part t t
  parts_none p part t = record {
    own_more = [];
    to_more = [];
    own = sym (append-nil part.own.items);
    spreads = sym (append-nil part.spreads.items);
    represents = nothing;
    below = All-nil (Low (length t.sets.items));
    within = λ fragments bound w. All-nil (IsWithin fragments bound);
    keeps = keeps_self t;
  }

  parts_then : (p : Option (MetaTypeOf S C)) (xs ys : List (Selection S)) (a b c : NumberedSet) (s t u : Table S C) → AddsParts schema numbers p xs a b s t → AddsParts schema numbers p ys b c t u → AddsParts schema numbers p (xs ++ ys) a c s u
  parts_then p xs ys a b c s t u d e = record {
    own_more = d.own_more ++ e.own_more;
    to_more = d.to_more ++ e.to_more;
    own = e.own ∙ (ap (λ z. z ++ e.own_more) d.own ∙ append_assoc a.own.items d.own_more e.own_more);
    spreads = e.spreads ∙ (ap (λ z. z ++ e.to_more) d.spreads ∙ append_assoc a.spreads.items d.to_more e.to_more);
    represents = join (represents_more schema numbers e.keeps.extends d.represents) e.represents;
    below = All-append (Low (length u.sets.items)) d.own_more e.own_more (low_more _ _ d.own_more e.keeps.extends.longer d.below) e.below;
    within = λ fragments bound w. All-append (IsWithin fragments bound) d.to_more e.to_more (d.within fragments bound w) (e.within fragments bound w);
    keeps = keeps_then s t u d.keeps e.keeps;
  }

  parts_leaf : (p : Option (MetaTypeOf S C)) (f : Placed (Field S)) (o : PlainEntry S C) (a b : NumberedSet) (s t : Table S C)
      → o ≡ entry_under p f → f.item.selection_set ≡ None → PushesField o None a b s t → AddsParts schema numbers p (selection.Field f ∷ []) a b s t
  parts_leaf p f o a b s t is none pushed = record {
    own_more = pushed.own_field ∷ [];
    to_more = [];
    own = pushed.own;
    spreads = pushed.spreads ∙ sym (append-nil a.spreads.items);
    represents = leaf f pushed.own_field (subst (λ z. IsOwnField (numbered t) z pushed.own_field) is pushed.is) none pushed.below_is;
    below = All-cons (Low (length t.sets.items)) pushed.own_field [] (subst (λ z. option_map_or (λ n. suc n) z 0 ≤ length t.sets.items) (sym pushed.below_is) (omega arith)) (All-nil (Low (length t.sets.items)));
    within = λ fragments bound w. All-nil (IsWithin fragments bound);
    keeps = keeps_pushed o None a b s t pushed;
  }

  parts_field : (p q : Option (MetaTypeOf S C)) (f : Placed (Field S)) (w : Vec (Selection S) Global) (o : PlainEntry S C) (set' : List (Selection S)) (n : ℕ) (a b : NumberedSet) (s t u : Table S C)
      → o ≡ entry_under p f → f.item.selection_set ≡ Some w → q ≡ type_below schema o → set' ≡ w.items
      → HasSet schema numbers q set' n s t → PushesField o (Some n) a b t u → AddsParts schema numbers p (selection.Field f ∷ []) a b s u
  parts_field p q f w o set' n a b s t u is some type all added pushed =
      let inside : Represents schema numbers (numbered u) (type_below schema (entry_under p f)) w.items added.is.row.own.items added.is.to =
      represents_more schema numbers pushed.extends
      (subst (λ z. Represents schema numbers (numbered t) z w.items added.is.row.own.items added.is.to) (type ∙ ap (type_below schema) is)
      (subst (λ z. Represents schema numbers (numbered t) q z added.is.row.own.items added.is.to) all added.is.represents)) in
      let small : n < length t.sets.items = slice_get_within t.sets.items n added.is.row added.is.stored in
      let as_long : length u.sets.items ≡ length t.sets.items = ap length pushed.sets in
      record {
        own_more = pushed.own_field ∷ [];
        to_more = [];
        own = pushed.own;
        spreads = pushed.spreads ∙ sym (append-nil a.spreads.items);
        represents = field f pushed.own_field w n added.is.row added.is.to (subst (λ z. IsOwnField (numbered u) z pushed.own_field) is pushed.is) some pushed.below_is
            (pushed.extends.sets n added.is.row added.is.stored) added.is.once inside;
        below = All-cons (Low (length u.sets.items)) pushed.own_field [] (subst (λ z. option_map_or (λ k. suc k) z 0 ≤ length u.sets.items) (sym pushed.below_is) (omega (arith, small, as_long))) (All-nil (Low (length u.sets.items)));
        within = λ fragments bound w. All-nil (IsWithin fragments bound);
        keeps = keeps_then s t u added.keeps (keeps_pushed o (Some n) a b t u pushed);
      }

  parts_spread : (p : Option (MetaTypeOf S C)) (f : Placed (FragmentSpread S)) (number : Option ℕ) (a b : NumberedSet) (t : Table S C) → number ≡ numbers f.item.name.item.now → AddsSpread number a b → AddsParts schema numbers p (selection.FragmentSpread f ∷ []) a b t t
  parts_spread p f None a b t is added = record {
    own_more = [];
    to_more = [];
    own = added.own ∙ sym (append-nil a.own.items);
    spreads = added.spreads;
    represents = unknown f (sym is);
    below = All-nil (Low (length t.sets.items));
    within = λ fragments bound w. All-nil (IsWithin fragments bound);
    keeps = keeps_self t;
  }
  parts_spread p f (Some g) a b t is added = record {
    own_more = [];
    to_more = g ∷ [];
    own = added.own ∙ sym (append-nil a.own.items);
    spreads = added.spreads;
    represents = spread f g (sym is);
    below = All-nil (Low (length t.sets.items));
    within = λ fragments bound w. All-cons (IsWithin fragments bound) g [] (w f.item.name.item.now g (sym is)) (All-nil (IsWithin fragments bound));
    keeps = keeps_self t;
  }

  -- an inline fragment whose fields were added one by one, after something else
  parts_opened : (p q : Option (MetaTypeOf S C)) (i : Placed (InlineFragment S)) (set' : List (Selection S)) (a b : NumberedSet) (s t u : Table S C)
      → q ≡ type_inside schema p i.item.type_condition → set' ≡ i.item.selection_set.items → Keeps numbers s t
      → AddsParts schema numbers q set' a b t u → AddsParts schema numbers p (selection.InlineFragment i ∷ []) a b s u
  parts_opened p q i set' a b s t u type all kept added = record {
    own_more = added.own_more;
    to_more = added.to_more;
    own = added.own;
    spreads = added.spreads;
    represents = inline i added.own_more added.to_more added.to_more (λ x. refl)
        (subst (λ z. Represents schema numbers (numbered u) z i.item.selection_set.items added.own_more added.to_more) type
        (subst (λ z. Represents schema numbers (numbered u) q z added.own_more added.to_more) all added.represents));
    below = added.below;
    within = added.within;
    keeps = keeps_then s t u kept added.keeps;
  }

  -- what is filled may be another that has the same
  parts_as : (p : Option (MetaTypeOf S C)) (xs : List (Selection S)) (m n : ℕ) (a b c d : NumberedSet) (s t : Table S C) → HasSame m a b → HasSame n c d → AddsParts schema numbers p xs b c s t → AddsParts schema numbers p xs a d s t
  parts_as p xs m n a b c d s t first last h = record {
    own_more = h.own_more;
    to_more = h.to_more;
    own = last.own ∙ h.own ∙ ap (λ z. z ++ h.own_more) first.own;
    spreads = last.spreads ∙ h.spreads ∙ ap (λ z. z ++ h.to_more) first.spreads;
    represents = h.represents;
    below = h.below;
    within = h.within;
    keeps = h.keeps;
  }

  -- Fields that are added to a set under whatever type.
  pub for_none : (p : Option (MetaTypeOf S C)) (part : NumberedSet) (t : Table S C) → AddsFor schema numbers p [] part part t t
  for_none p part t = record { parts = parts_none p part t; order = refl; from = λ p0 q set0 whole i sub. fields_none schema p0 set0 t t refl }

  pub for_then : (p : Option (MetaTypeOf S C)) (xs ys : List (Selection S)) (a b c : NumberedSet) (s t u : Table S C) → AddsFor schema numbers p xs a b s t → AddsFor schema numbers p ys b c t u → AddsFor schema numbers p (xs ++ ys) a c s u
  for_then p xs ys a b c s t u d e = record {
    parts = parts_then p xs ys a b c s t u d.parts e.parts;
    order = e.order ∙ d.order;
    from = λ p0 q set0 whole i sub. fields_then schema p0 set0 s t u e.parts.keeps.extends
        (d.from p0 q set0 whole i (λ x c. sub x (Contains-append_left xs ys x c))) (e.from p0 q set0 whole i (λ x c. sub x (Contains-append_right xs ys x c)));
  }

  pub for_leaf : (p : Option (MetaTypeOf S C)) (f : Placed (Field S)) (o : PlainEntry S C) (a b : NumberedSet) (s t : Table S C)
      → o ≡ entry_under p f → f.item.selection_set ≡ None → PushesField o None a b s t → AddsFor schema numbers p (selection.Field f ∷ []) a b s t
  for_leaf p f o a b s t is none pushed = record {
    parts = parts_leaf p f o a b s t is none pushed;
    order = pushed.order;
    from = λ p0 q set0 whole i sub. fields_pushed schema p0 set0 q whole f o None a b s t i (sub (selection.Field f) (Contains-push [] (selection.Field f))) (ap (λ z. z.field) is) pushed;
  }

  pub for_field : (p q : Option (MetaTypeOf S C)) (f : Placed (Field S)) (w : Vec (Selection S) Global) (o : PlainEntry S C) (set' : List (Selection S)) (n : ℕ) (a b : NumberedSet) (s t u : Table S C)
      → o ≡ entry_under p f → f.item.selection_set ≡ Some w → q ≡ type_below schema o → set' ≡ w.items
      → AddsSetFor schema numbers q set' n s t → PushesField o (Some n) a b t u → AddsFor schema numbers p (selection.Field f ∷ []) a b s u
  for_field p q f w o set' n a b s t u is some type all added pushed = record {
    parts = parts_field p q f w o set' n a b s t u is some type all added.has pushed;
    order = pushed.order ∙ added.order;
    from = λ p0 r set0 whole i sub.
        let stands : Contains whole (selection.Field f) = sub (selection.Field f) (Contains-push [] (selection.Field f)) in
        fields_then schema p0 set0 s t u pushed.extends
        (fields_inside schema s t (subst (λ z. IsInside schema p0 set0 (type_below schema (entry_under r f)) z) (sym all) (below_field f w i stands some)) (added.from (type_below schema (entry_under r f))))
        (fields_pushed schema p0 set0 r whole f o (Some n) a b t u i stands (ap (λ z. z.field) is) pushed);
  }

  pub for_spread : (p : Option (MetaTypeOf S C)) (f : Placed (FragmentSpread S)) (number : Option ℕ) (a b : NumberedSet) (t : Table S C) → number ≡ numbers f.item.name.item.now → AddsSpread number a b → AddsFor schema numbers p (selection.FragmentSpread f ∷ []) a b t t
  for_spread p f number a b t is added = record { parts = parts_spread p f number a b t is added; order = refl; from = λ p0 q set0 whole i sub. fields_none schema p0 set0 t t refl }

  pub for_inline : (p q : Option (MetaTypeOf S C)) (i : Placed (InlineFragment S)) (set' : List (Selection S)) (a b : NumberedSet) (s t : Table S C)
      → q ≡ type_inside schema p i.item.type_condition → set' ≡ i.item.selection_set.items
      → AddsFor schema numbers q set' a b s t → AddsFor schema numbers p (selection.InlineFragment i ∷ []) a b s t
  for_inline p q i set' a b s t type all added = record {
    parts = parts_opened p q i set' a b s s t type all (keeps_self s) added.parts;
    order = added.order;
    from = λ p0 r set0 whole j sub.
        let stands : Contains whole (selection.InlineFragment i) = sub (selection.InlineFragment i) (Contains-push [] (selection.InlineFragment i)) in
        added.from p0 (type_entered schema r i.item.type_condition) set0 set'
        (subst (λ z. IsInside schema p0 set0 (type_entered schema r i.item.type_condition) z) (sym all) (of_inline i j stands)) (λ x c. c);
  }

  -- Fields that are added to a set with all sets in them.
  order_then : (ms ns : List ℕ) (s t u : Table S C) → t.order.items ≡ s.order.items ++ ms → u.order.items ≡ t.order.items ++ ns → u.order.items ≡ s.order.items ++ (ms ++ ns)
  order_then ms ns s t u d e = e ∙ (ap (λ z. z ++ ns) d ∙ append_assoc s.order.items ms ns)

  pub adds_none : (p : Option (MetaTypeOf S C)) (part : NumberedSet) (t : Table S C) → Adds schema numbers p [] part part t t
  adds_none p part t = record {
    parts = parts_none p part t;
    more = [];
    order = sym (append-nil t.order.items);
    found = nothing_deeper;
    from = λ p0 set0 whole i sub. comes_none schema numbers p0 set0 t t refl (fields_none schema p0 set0 t t refl);
    size = λ p0 set0 whole i sub known. omega arith;
    nests = λ p0 set0 whole i sub known. nests_none schema part t;
  }
    where
      nothing_deeper : (q : Option (MetaTypeOf S C)) (inner : List (Selection S)) → IsDeeper schema p [] q inner → IsHeld schema numbers t [] (IsDeeper schema p []) q inner ⊎ IsPartOf schema q inner p []
      nothing_deeper q inner (of_field f w c e i) = let l = c.1 in absurd (omega (arith, l))
      nothing_deeper q inner (of_fragment f c i) = let l = c.1 in absurd (omega (arith, l))

  pub adds_then : (p : Option (MetaTypeOf S C)) (xs ys : List (Selection S)) (a b c : NumberedSet) (s t u : Table S C) → Adds schema numbers p xs a b s t → Adds schema numbers p ys b c t u → Adds schema numbers p (xs ++ ys) a c s u
  adds_then p xs ys a b c s t u d e = record {
    parts = parts_then p xs ys a b c s t u d.parts e.parts;
    more = d.more ++ e.more;
    order = order_then d.more e.more s t u d.order e.order;
    found = either;
    from = λ p0 set0 whole i sub. comes_then schema numbers p0 set0 d.more e.more s t u e.parts.keeps.extends
        (d.from p0 set0 whole i (λ x c. sub x (Contains-append_left xs ys x c))) (e.from p0 set0 whole i (λ x c. sub x (Contains-append_right xs ys x c)));
    size = λ p0 set0 whole i sub known.
        let first = d.size p0 set0 whole i (λ x c. sub x (Contains-append_left xs ys x c)) known in
        let second = e.size p0 set0 whole i (λ x c. sub x (Contains-append_right xs ys x c)) known in
        omega (arith, first, second, count_append xs ys);
    nests = λ p0 set0 whole i sub known. nests_then schema xs ys d.more e.more a b c s t u e.parts.own_more e.parts.keeps.extends e.parts.own
        (d.nests p0 set0 whole i (λ x c. sub x (Contains-append_left xs ys x c)) known) (e.nests p0 set0 whole i (λ x c. sub x (Contains-append_right xs ys x c)) known);
  }
    where
      Found : Option (MetaTypeOf S C) → List (Selection S) → Type 0
      Found q inner = IsHeld schema numbers u (d.more ++ e.more) (IsDeeper schema p (xs ++ ys)) q inner ⊎ IsPartOf schema q inner p (xs ++ ys)

      first : (q : Option (MetaTypeOf S C)) (inner : List (Selection S)) → IsDeeper schema p xs q inner → Found q inner
      first q inner i = elim (d.found q inner i) [
        | inl h ↦ inl record {
          number = h.number;
          among = list_any-append (λ y. y == h.number) d.more e.more ∙ or_left (is_among d.more h.number) (is_among e.more h.number) h.among;
          type = h.type;
          set = h.set;
          is = set_more schema numbers e.parts.keeps.extends h.is;
          stands = deeper_in schema xs (xs ++ ys) (λ x c. Contains-append_left xs ys x c) h.stands;
          part = h.part;
        }
        | inr h ↦ inr (part_first schema q p inner xs ys h)
      ]

      second : (q : Option (MetaTypeOf S C)) (inner : List (Selection S)) → IsDeeper schema p ys q inner → Found q inner
      second q inner i = elim (e.found q inner i) [
        | inl h ↦ inl record {
          number = h.number;
          among = list_any-append (λ y. y == h.number) d.more e.more ∙ or_right (is_among d.more h.number) (is_among e.more h.number) h.among;
          type = h.type;
          set = h.set;
          is = h.is;
          stands = deeper_in schema ys (xs ++ ys) (λ x c. Contains-append_right xs ys x c) h.stands;
          part = h.part;
        }
        | inr h ↦ inr (part_last schema q p inner xs ys h)
      ]

      either : (q : Option (MetaTypeOf S C)) (inner : List (Selection S)) → IsDeeper schema p (xs ++ ys) q inner → Found q inner
      either q inner (of_field f w k some i) = elim (Contains-append_cases xs ys (selection.Field f) k) [
        | inl h ↦ first q inner (of_field f w h some i)
        | inr h ↦ second q inner (of_field f w h some i)
      ]
      either q inner (of_fragment f k i) = elim (Contains-append_cases xs ys (selection.InlineFragment f) k) [
        | inl h ↦ first q inner (of_fragment f h i)
        | inr h ↦ second q inner (of_fragment f h i)
      ]

  pub adds_leaf : (p : Option (MetaTypeOf S C)) (f : Placed (Field S)) (o : PlainEntry S C) (a b : NumberedSet) (s t : Table S C)
      → o ≡ entry_under p f → f.item.selection_set ≡ None → PushesField o None a b s t → Adds schema numbers p (selection.Field f ∷ []) a b s t
  adds_leaf p f o a b s t is none pushed = record {
    parts = parts_leaf p f o a b s t is none pushed;
    more = [];
    order = pushed.order ∙ sym (append-nil s.order.items);
    found = nothing_deeper;
    from = λ p0 set0 whole i sub. comes_none schema numbers p0 set0 s t pushed.sets
        (fields_pushed schema p0 set0 p whole f o None a b s t i (sub (selection.Field f) (Contains-push [] (selection.Field f))) (ap (λ z. z.field) is) pushed);
    size = λ p0 set0 whole i sub known. omega (arith, pushed.size, count_leaf f none);
    nests = λ p0 set0 whole i sub known. nests_alone schema (selection.Field f ∷ []) a b s t pushed.parts pushed.sets pushed.inner;
  }
    where
      nothing_deeper : (q : Option (MetaTypeOf S C)) (inner : List (Selection S)) → IsDeeper schema p (selection.Field f ∷ []) q inner → IsHeld schema numbers t [] (IsDeeper schema p (selection.Field f ∷ [])) q inner ⊎ IsPartOf schema q inner p (selection.Field f ∷ [])
      nothing_deeper q inner (of_field g w c e i) = absurd (none_there w (sym none ∙ ap (λ (h : Placed (Field S)). h.item.selection_set) (only_field f g c) ∙ e))
        where
          none_there : (w : Vec (Selection S) Global) → None ≡ Some w → ⊥
          none_there w e = cc
      nothing_deeper q inner (of_fragment g c i) = absurd (no_inline f g c)

  pub adds_field : (p q : Option (MetaTypeOf S C)) (f : Placed (Field S)) (w : Vec (Selection S) Global) (o : PlainEntry S C) (set' : List (Selection S)) (n : ℕ) (a b : NumberedSet) (s t u : Table S C)
      → o ≡ entry_under p f → f.item.selection_set ≡ Some w → q ≡ type_below schema o → set' ≡ w.items
      → AddsSet schema numbers q set' n s t → PushesField o (Some n) a b t u → Adds schema numbers p (selection.Field f ∷ []) a b s u
  adds_field p q f w o set' n a b s t u is some type all added pushed = record {
    parts = parts_field p q f w o set' n a b s t u is some type all added.has pushed;
    more = added.more;
    order = pushed.order ∙ added.order;
    found = deeper;
    from = λ p0 set0 whole i sub.
        let stands : Contains whole (selection.Field f) = sub (selection.Field f) (Contains-push [] (selection.Field f)) in
        subst (λ z. ComesFrom schema numbers p0 set0 z s u) (append-nil added.more)
        (comes_then schema numbers p0 set0 added.more [] s t u pushed.extends (comes_inside schema numbers s t (inside_below i stands) added.from)
        (comes_none schema numbers p0 set0 t u pushed.sets (fields_pushed schema p0 set0 p whole f o (Some n) a b t u i stands (ap (λ z. z.field) is) pushed)));
    size = λ p0 set0 whole i sub known.
        let inside = inside_below i (sub (selection.Field f) (Contains-push [] (selection.Field f))) in
        let below = added.size (known_inside schema inside known) in
        omega (arith, below, pushed.size, count_field f w some, ap all_inside all);
    nests = λ p0 set0 whole i sub known.
        let inside = inside_below i (sub (selection.Field f) (Contains-push [] (selection.Field f))) in
        nests_field schema (selection.Field f ∷ []) set' added.more o (Some n) a b s t u (depths_field f w some ∙ ap (λ z. depths z 1) (sym all)) (added.nests (known_inside schema inside known)) pushed;
  }
    where
      inside_below : {p0 : Option (MetaTypeOf S C)} {set0 whole : List (Selection S)} → IsInside schema p0 set0 p whole → Contains whole (selection.Field f) → IsInside schema p0 set0 q set'
      inside_below {p0} {set0} i stands =
          subst (λ z. IsInside schema p0 set0 z set') (sym (type ∙ ap (type_below schema) is))
          (subst (λ z. IsInside schema p0 set0 (type_below schema (entry_under p f)) z) (sym all) (below_field f w i stands some))

      deeper : (r : Option (MetaTypeOf S C)) (inner : List (Selection S)) → IsDeeper schema p (selection.Field f ∷ []) r inner → IsHeld schema numbers u added.more (IsDeeper schema p (selection.Field f ∷ [])) r inner ⊎ IsPartOf schema r inner p (selection.Field f ∷ [])
      deeper r inner (of_field g v c e i) =
          let same : f ≡ g = only_field f g c in
          let one : v ≡ w = same_some v w (sym e ∙ ap (λ (h : Placed (Field S)). h.item.selection_set) (sym same) ∙ some) in
          let within : IsInside schema q set' r inner =
          subst (λ z. IsInside schema z set' r inner) (sym (type ∙ ap (type_below schema) is))
          (subst (λ z. IsInside schema (type_below schema (entry_under p f)) z r inner) (sym all)
          (subst (λ (z : Vec (Selection S) Global). IsInside schema (type_below schema (entry_under p f)) z.items r inner) one
          (subst (λ z. IsInside schema (type_below schema (entry_under p z)) v.items r inner) (sym same) i))) in
          let h = added.found r inner within in
          inl record {
            number = h.number;
            among = h.among;
            type = h.type;
            set = h.set;
            is = set_more schema numbers pushed.extends h.is;
            stands = of_field f w (Contains-push [] (selection.Field f)) some
                (subst (λ z. IsInside schema z w.items h.type h.set) (type ∙ ap (type_below schema) is) (subst (λ z. IsInside schema q z h.type h.set) all h.stands));
            part = h.part;
          }
      deeper r inner (of_fragment g c i) = absurd (no_inline f g c)

  pub adds_spread : (p : Option (MetaTypeOf S C)) (f : Placed (FragmentSpread S)) (number : Option ℕ) (a b : NumberedSet) (t : Table S C) → number ≡ numbers f.item.name.item.now → AddsSpread number a b → Adds schema numbers p (selection.FragmentSpread f ∷ []) a b t t
  adds_spread p f number a b t is added = record {
    parts = parts_spread p f number a b t is added;
    more = [];
    order = sym (append-nil t.order.items);
    found = nothing_deeper;
    from = λ p0 set0 whole i sub. comes_none schema numbers p0 set0 t t refl (fields_none schema p0 set0 t t refl);
    size = λ p0 set0 whole i sub known. omega (arith, ap length added.own, ap length added.spreads, one_more number a.spreads.items, ap length added.inner, count_spread f);
    nests = λ p0 set0 whole i sub known. nests_alone schema (selection.FragmentSpread f ∷ []) a b t t added.inner refl refl;
  }
    where
      nothing_deeper : (q : Option (MetaTypeOf S C)) (inner : List (Selection S)) → IsDeeper schema p (selection.FragmentSpread f ∷ []) q inner → IsHeld schema numbers t [] (IsDeeper schema p (selection.FragmentSpread f ∷ [])) q inner ⊎ IsPartOf schema q inner p (selection.FragmentSpread f ∷ [])
      nothing_deeper q inner (of_field g w c e i) = absurd (spread_no_field f g c)
      nothing_deeper q inner (of_fragment g c i) = absurd (spread_no_inline f g c)

  -- the sets in an inline fragment are those of its set
  module _ (p q : Option (MetaTypeOf S C)) (i : Placed (InlineFragment S)) (set' : List (Selection S))
      (type : q ≡ type_entered schema p i.item.type_condition) (all : set' ≡ i.item.selection_set.items) where
    inside_fragment : (r : Option (MetaTypeOf S C)) (inner : List (Selection S)) → IsDeeper schema p (selection.InlineFragment i ∷ []) r inner → IsInside schema q set' r inner
    inside_fragment r inner (of_field g v c some j) = absurd (no_field i g c)
    inside_fragment r inner (of_fragment g c j) =
        let same : i ≡ g = only_inline i g c in
        subst (λ z. IsInside schema z set' r inner) (sym type)
        (subst (λ z. IsInside schema (type_entered schema p i.item.type_condition) z r inner) (sym all)
        (subst (λ (z : Placed (InlineFragment S)). IsInside schema (type_entered schema p z.item.type_condition) z.item.selection_set.items r inner) (sym same) j))

    -- and the other way round
    fragment_inside : (r : Option (MetaTypeOf S C)) (inner : List (Selection S)) → IsInside schema q set' r inner → IsDeeper schema p (selection.InlineFragment i ∷ []) r inner
    fragment_inside r inner j = of_fragment i (Contains-push [] (selection.InlineFragment i))
        (subst (λ z. IsInside schema z i.item.selection_set.items r inner) type (subst (λ z. IsInside schema q z r inner) all j))

    entered_inside : {p0 : Option (MetaTypeOf S C)} {set0 whole : List (Selection S)} → IsInside schema p0 set0 p whole → Contains whole (selection.InlineFragment i) → IsInside schema p0 set0 q set'
    entered_inside {p0} {set0} j stands =
        subst (λ z. IsInside schema p0 set0 z set') (sym type)
        (subst (λ z. IsInside schema p0 set0 (type_entered schema p i.item.type_condition) z) (sym all) (of_inline i j stands))

    -- its set is a part of the set round it
    module _ (place : ℕ) (s t : Table S C) (a b c d : NumberedSet) (first : BeginsPart place a b) (last : EndsPart place c d) (agree : type_entered schema p i.item.type_condition ≡ type_inside schema p i.item.type_condition)
        (added : Adds schema numbers q set' b c s t) where
      as_part : (r : Option (MetaTypeOf S C)) (inner : List (Selection S)) → IsPartOf schema r inner q set' → IsPartOf schema r inner p (selection.InlineFragment i ∷ [])
      as_part r inner h = part_inline schema r p inner i
          (subst (λ z. IsPartOf schema r inner z i.item.selection_set.items) (type ∙ agree) (subst (λ z. IsPartOf schema r inner q z) all h))

      in_part : (r : Option (MetaTypeOf S C)) (inner : List (Selection S)) → Front schema q set' r inner → IsHeld schema numbers t added.more (IsDeeper schema p (selection.InlineFragment i ∷ [])) r inner ⊎ IsPartOf schema r inner p (selection.InlineFragment i ∷ [])
      in_part r inner here = inr (as_part q set' (part_itself schema q set'))
      in_part r inner (there d) = elim (added.found r inner d) [
        | inl h ↦ inl record {
          number = h.number;
          among = h.among;
          type = h.type;
          set = h.set;
          is = h.is;
          stands = fragment_inside h.type h.set (deeper_inside schema h.stands);
          part = h.part;
        }
        | inr h ↦ inr (as_part r inner h)
      ]

      pub adds_inline : Adds schema numbers p (selection.InlineFragment i ∷ []) a d s t
      adds_inline = record {
        parts = parts_as p (selection.InlineFragment i ∷ []) 1 0 a b c d s t first.same last.same (parts_opened p q i set' b c s s t (type ∙ agree) all (keeps_self s) added.parts);
        more = added.more;
        order = added.order;
        found = λ r inner d. in_part r inner (front schema (inside_fragment r inner d));
        from = λ p0 set0 whole j sub. added.from p0 set0 set' (entered_inside j (sub (selection.InlineFragment i) (Contains-push [] (selection.InlineFragment i)))) (λ x c. c);
        size = λ p0 set0 whole j sub known.
            let inside = added.size p0 set0 set' (entered_inside j (sub (selection.InlineFragment i) (Contains-push [] (selection.InlineFragment i)))) (λ x c. c) known in
            omega (
              arith,
              inside,
              ap length first.same.own,
              ap length first.same.spreads,
              first.same.inner,
              ap length last.same.own,
              ap length last.same.spreads,
              last.same.inner,
              count_inline i,
              ap all_inside all,
            );
        nests = λ p0 set0 whole j sub known.
            let inside = entered_inside j (sub (selection.InlineFragment i) (Contains-push [] (selection.InlineFragment i))) in
            nests_part schema (selection.InlineFragment i ∷ []) set' place a b c d s t first last numbers q added.more (depths_inline i ∙ ap (λ z. depths z 1) (sym all)) added.parts
            (added.nests p0 set0 set' inside (λ x c. c) known);
      }

    -- its set was stored, and its fields added once more
    pub adds_lost : (n : ℕ) (s t : Table S C) (a b : NumberedSet) (u : Table S C) → AddsSet schema numbers q set' n s t → p ≡ type_inside schema p i.item.type_condition → (IsConditionKnown schema i.item.type_condition → ⊥)
        → AddsFor schema numbers p set' a b t u → Adds schema numbers p (selection.InlineFragment i ∷ []) a b s u
    adds_lost n s t a b u added agree lost merged = record {
      parts = parts_opened p p i set' a b s t u agree all added.has.keeps merged.parts;
      more = added.more;
      order = merged.order ∙ added.order;
      found = λ r inner d. let h = added.found r inner (inside_fragment r inner d) in inl record {
        number = h.number;
        among = h.among;
        type = h.type;
        set = h.set;
        is = set_more schema numbers merged.parts.keeps.extends h.is;
        stands = fragment_inside h.type h.set h.stands;
        part = h.part;
      };
      from = λ p0 set0 whole j sub.
          let stands : Contains whole (selection.InlineFragment i) = sub (selection.InlineFragment i) (Contains-push [] (selection.InlineFragment i)) in
          let inside = entered_inside j stands in
          let first = comes_inside schema numbers s t inside added.from in
          record {
            sets = λ k l. let (r, inner, h, is) = first.sets k l in (r, inner, h, set_more schema numbers merged.parts.keeps.extends is);
            fields = fields_then schema p0 set0 s t u merged.parts.keeps.extends first.fields (merged.from p0 q set0 set' inside (λ x c. c));
            whole = λ known. absurd (lost (known p whole j i stands));
          };
      size = λ p0 set0 whole j sub known. absurd (lost (known p whole j i (sub (selection.InlineFragment i) (Contains-push [] (selection.InlineFragment i)))));
      nests = λ p0 set0 whole j sub known. absurd (lost (known p whole j i (sub (selection.InlineFragment i) (Contains-push [] (selection.InlineFragment i)))));
    }
