-- Equality of values is symmetric and transitive, where that of scalars is.
use Rattle.std.proofs.Common.{◌≡◌, List, [], ◌∷◌, map, Bool, true, ◌&&◌, nat_eq, string_bytes, refl, sym, ap}
use Rattle.std.proofs.Common.{◌∙◌, subst, Vec}
use mathlib.Core.Bool.{true≢false}
use Rattle.std.specs.Cmp.{IsPartialEquivalence, partial_equiv_from_equiv}
use Rattle.std.specs.Cmp.Lexicographic.{pointwise, nat_list_eq_equiv}
use Rattle.std.specs.declared.alloc.Global.{Global}
use Rattle.std.proofs.lemmas.Bool.{and_parts, and_from}
use Rattle.language_types.specs.contracts.position.SpanPartialEq.TheImpl.Laws as span
use Rattle.language_types.specs.declared.position.Span.{Span}
use Rattle.language_types.specs.declared.position.Spanning.{Spanning}
use Rattle.language_values.specs.declared.value.InputValue.{InputValue, ind-InputValue, map-InputValue, roll-InputValue}
use Rattle.language_values.specs.declared.value.InputValue.{fold-roll-InputValue, out-roll-InputValue}
use Rattle.language_values.specs.declared.value.InputValue.TheVariants as v
use Rattle.language_values.specs.declared.value.InputValue.TheOpen as open_value
use Rattle.language_values.specs.Each.{Each}
use Rattle.language_values.specs.Values.{Entry}
use Rattle.language_values.specs.ValuesSame.{same_span, same_item, same_place, same_entry, applied, same_layer, same_step}
use Rattle.language_values.specs.ValuesSame.{same_value}
use Rattle.language_values.specs.ValuesWith.{SuchValue, bare, bare_entry, each_item, each_entry}

span_laws : IsPartialEquivalence same_span
unfolding same_span
span_laws = span.laws-law

text_laws : IsPartialEquivalence (pointwise nat_eq)
text_laws = partial_equiv_from_equiv nat_list_eq_equiv

pub pointwise-map_left : {A B C : Type 0} (E : B → C → Bool) (h : A → B) (xs : List A) (ys : List C)
    → pointwise E (map h xs) ys ≡ pointwise (λ a c. E (h a) c) xs ys
pointwise-map_left E h [] [] = refl
pointwise-map_left E h [] (y ∷ ys) = refl
pointwise-map_left E h (x ∷ xs) [] = refl
pointwise-map_left E h (x ∷ xs) (y ∷ ys) = ap (λ b. E (h x) y && b) (pointwise-map_left E h xs ys)

-- facts of one on the left, at all on the right
abbrev Turns : {A : Type 0} → (A → A → Bool) → A → Type 0
Turns {A} T x = (y : A) → T x y ≡ T y x

abbrev Leads : {A : Type 0} → (A → A → Bool) → A → Type 0
Leads {A} T x = (y z : A) → T x y ≡ true → T y z ≡ true → T x z ≡ true

each_with : {A : Type 0} {P Q : A → Type 0} → ((x : A) → P x → Q x) → (xs : List A) → Each P xs → Each Q xs
each_with f [] each = tt
each_with f (x ∷ xs) each = (f x each.0, each_with f xs each.1)

all_turn : {A : Type 0} (T : A → A → Bool) (xs ys : List A) → Each (Turns T) xs → pointwise T xs ys ≡ pointwise T ys xs
all_turn T [] [] each = refl
all_turn T [] (y ∷ ys) each = refl
all_turn T (x ∷ xs) [] each = refl
all_turn T (x ∷ xs) (y ∷ ys) each =
    ap (λ b. b && pointwise T xs ys) (each.0 y) ∙ ap (λ b. T y x && b) (all_turn T xs ys each.1)

all_lead : {A : Type 0} (T : A → A → Bool) (xs ys zs : List A) → Each (Leads T) xs → pointwise T xs ys ≡ true
    → pointwise T ys zs ≡ true → pointwise T xs zs ≡ true
all_lead T [] [] zs each p q = q
all_lead T [] (y ∷ ys) zs each p q = absurd (true≢false (sym p))
all_lead T (x ∷ xs) [] zs each p q = absurd (true≢false (sym p))
all_lead T (x ∷ xs) (y ∷ ys) [] each p q = q
all_lead T (x ∷ xs) (y ∷ ys) (z ∷ zs) each p q =
    let ps = and_parts (T x y) (pointwise T xs ys) p in
    let qs = and_parts (T y z) (pointwise T ys zs) q in
    and_from (T x z) (pointwise T xs zs) (each.0 y z ps.0 qs.0) (all_lead T xs ys zs each.1 ps.1 qs.1)

-- two tests in turn
both_turn : {A : Type 0} (T U : A → A → Bool) (x : A) → Turns T x → Turns U x → Turns (λ a b. T a b && U a b) x
both_turn T U x t u = λ y. ap (λ b. b && U x y) (t y) ∙ ap (λ b. T y x && b) (u y)

both_lead : {A : Type 0} (T U : A → A → Bool) (x : A) → Leads T x → Leads U x → Leads (λ a b. T a b && U a b) x
both_lead T U x t u = λ y z p q.
    let ps = and_parts (T x y) (U x y) p in
    let qs = and_parts (T y z) (U y z) q in
    and_from (T x z) (U x z) (t y z ps.0 qs.0) (u y z ps.1 qs.1)

module _ {S : Type 0} (E : S → S → Bool) where
  abbrev Layer : Type 0
  Layer = open_value.InputValue-F S (InputValue S)

  abbrev inside : Spanning (InputValue S) Span → Spanning (InputValue S → Bool) Span
  inside x = record { item = same_value E x.item; span = x.span }

  abbrev inside_entry : Entry (InputValue S) → Entry (InputValue S → Bool)
  inside_entry e = (e.0, inside e.1)

  abbrev opened : Layer → open_value.InputValue-F S (InputValue S → Bool)
  opened = map-InputValue S (InputValue S) (InputValue S → Bool) (same_value E)

  same_value-roll : (l r : Layer) → same_value E (roll-InputValue S l) (roll-InputValue S r) ≡ same_layer E (opened l) r
  same_value-roll l r =
      ap (λ k. k (roll-InputValue S r)) (fold-roll-InputValue S (InputValue S → Bool) (same_step E) l)
      ∙ ap (same_layer E (opened l)) (out-roll-InputValue S r)

  abbrev same_items : List (Spanning (InputValue S) Span) → List (Spanning (InputValue S) Span) → Bool
  same_items = pointwise (same_item (same_value E))

  abbrev same_entries : List (Entry (InputValue S)) → List (Entry (InputValue S)) → Bool
  same_entries = pointwise (same_entry (same_value E))

  -- the layer of a list or of an object, by the items themselves
  items_layer-is : (xs ys : List (Spanning (InputValue S) Span)) → pointwise (same_item applied) (map inside xs) ys ≡ same_items xs ys
  items_layer-is xs ys = pointwise-map_left (same_item applied) inside xs ys

  entries_layer-is : (xs ys : List (Entry (InputValue S))) → pointwise (same_entry applied) (map inside_entry xs) ys ≡ same_entries xs ys
  entries_layer-is xs ys = pointwise-map_left (same_entry applied) inside_entry xs ys

  pub same_value-List : (l r : InputValue S) (xs ys : Vec (Spanning (InputValue S) Span) Global) → l ≡ v.List xs
      → r ≡ v.List ys → same_value E l r ≡ same_items xs.items ys.items
  same_value-List l r xs ys p q =
      ap (λ w. same_value E w r) (p ∙ sym (v.rolls-List xs))
      ∙ ap (same_value E (roll-InputValue S (open_value.List xs))) (q ∙ sym (v.rolls-List ys))
      ∙ same_value-roll (open_value.List xs) (open_value.List ys)
      ∙ items_layer-is xs.items ys.items

  pub same_value-Object : (l r : InputValue S) (xs ys : Vec (Entry (InputValue S)) Global) → l ≡ v.Object xs
      → r ≡ v.Object ys → same_value E l r ≡ same_entries xs.items ys.items
  same_value-Object l r xs ys p q =
      ap (λ w. same_value E w r) (p ∙ sym (v.rolls-Object xs))
      ∙ ap (same_value E (roll-InputValue S (open_value.Object xs))) (q ∙ sym (v.rolls-Object ys))
      ∙ same_value-roll (open_value.Object xs) (open_value.Object ys)
      ∙ entries_layer-is xs.items ys.items

  -- a fact of every value, by its layer
  by_layer : (P : InputValue S → Type 0) → ((l : Layer) → P (roll-InputValue S l)) → (w : InputValue S) → P w
  by_layer P h = ind-InputValue S P (λ x y is. h x)

  module _ (laws : IsPartialEquivalence E) where
    abbrev Symmetric : InputValue S → Type 0
    Symmetric = Turns (same_value E)

    abbrev Transitive : InputValue S → Type 0
    Transitive = Leads (same_value E)

    abbrev bared : {P : InputValue S → Type 0} → open_value.InputValue-F S (SuchValue P) → Layer
    bared {P} = map-InputValue S (SuchValue P) (InputValue S) (λ e. e.0)

    item_turns : (x : Spanning (InputValue S) Span) → Symmetric x.item → Turns (same_item (same_value E)) x
    item_turns x h = both_turn (λ a b. same_span a.span b.span) (λ a b. same_value E a.item b.item) x
        (λ y. span_laws.symm x.span y.span) (λ y. h y.item)

    item_leads : (x : Spanning (InputValue S) Span) → Transitive x.item → Leads (same_item (same_value E)) x
    item_leads x h = both_lead (λ a b. same_span a.span b.span) (λ a b. same_value E a.item b.item) x
        (λ y z. span_laws.trans x.span y.span z.span) (λ y z. h y.item z.item)

    place_turns : (x : Entry (InputValue S)) → Turns same_place x
    place_turns x =
        both_turn (λ a b. pointwise nat_eq (string_bytes a.0.item) (string_bytes b.0.item))
        (λ a b. same_span a.0.span b.0.span && same_span a.1.span b.1.span) x
        (λ y. text_laws.symm (string_bytes x.0.item) (string_bytes y.0.item))
        (both_turn (λ a b. same_span a.0.span b.0.span) (λ a b. same_span a.1.span b.1.span) x
        (λ y. span_laws.symm x.0.span y.0.span) (λ y. span_laws.symm x.1.span y.1.span))

    place_leads : (x : Entry (InputValue S)) → Leads same_place x
    place_leads x =
        both_lead (λ a b. pointwise nat_eq (string_bytes a.0.item) (string_bytes b.0.item))
        (λ a b. same_span a.0.span b.0.span && same_span a.1.span b.1.span) x
        (λ y z. text_laws.trans (string_bytes x.0.item) (string_bytes y.0.item) (string_bytes z.0.item))
        (both_lead (λ a b. same_span a.0.span b.0.span) (λ a b. same_span a.1.span b.1.span) x
        (λ y z. span_laws.trans x.0.span y.0.span z.0.span) (λ y z. span_laws.trans x.1.span y.1.span z.1.span))

    entry_turns : (x : Entry (InputValue S)) → Symmetric x.1.item → Turns (same_entry (same_value E)) x
    entry_turns x h = both_turn same_place (λ a b. same_value E a.1.item b.1.item) x (place_turns x) (λ y. h y.1.item)

    entry_leads : (x : Entry (InputValue S)) → Transitive x.1.item → Leads (same_entry (same_value E)) x
    entry_leads x h = both_lead same_place (λ a b. same_value E a.1.item b.1.item) x (place_leads x) (λ y z. h y.1.item z.1.item)

    symmetric_layer : (y : open_value.InputValue-F S (SuchValue Symmetric)) (r : Layer)
        → same_layer E (opened (bared y)) r ≡ same_layer E (opened r) (bared y)
    symmetric_layer open_value.Null open_value.Null = refl
    symmetric_layer (open_value.Scalar s) (open_value.Scalar t) = laws.symm s t
    symmetric_layer (open_value.Enum a) (open_value.Enum b) = text_laws.symm (string_bytes a) (string_bytes b)
    symmetric_layer (open_value.Variable a) (open_value.Variable b) = text_laws.symm (string_bytes a) (string_bytes b)
    symmetric_layer (open_value.List xs) (open_value.List ys) =
        let zs = map (bare Symmetric) xs.items in
        items_layer-is zs ys.items
        ∙ all_turn (same_item (same_value E)) zs ys.items (each_with item_turns zs (each_item Symmetric xs.items))
        ∙ sym (items_layer-is ys.items zs)
    symmetric_layer (open_value.Object es) (open_value.Object fs) =
        let zs = map (bare_entry Symmetric) es.items in
        entries_layer-is zs fs.items
        ∙ all_turn (same_entry (same_value E)) zs fs.items (each_with entry_turns zs (each_entry Symmetric es.items))
        ∙ sym (entries_layer-is fs.items zs)
    symmetric_layer _ _ = refl

    symmetric : (w : InputValue S) → Symmetric w
    symmetric = ind-InputValue S Symmetric
        (λ x y is. subst (λ z. Symmetric (roll-InputValue S z)) is
        (by_layer (λ w. same_value E (roll-InputValue S (bared y)) w ≡ same_value E w (roll-InputValue S (bared y)))
        (λ r. same_value-roll (bared y) r ∙ symmetric_layer y r ∙ sym (same_value-roll r (bared y)))))

    transitive_layer : (y : open_value.InputValue-F S (SuchValue Transitive)) (r t : Layer)
        → same_layer E (opened (bared y)) r ≡ true → same_layer E (opened r) t ≡ true
        → same_layer E (opened (bared y)) t ≡ true
    transitive_layer open_value.Null open_value.Null t p q = q
    transitive_layer (open_value.Scalar a) (open_value.Scalar b) (open_value.Scalar c) p q = laws.trans a b c p q
    transitive_layer (open_value.Enum a) (open_value.Enum b) (open_value.Enum c) p q =
        text_laws.trans (string_bytes a) (string_bytes b) (string_bytes c) p q
    transitive_layer (open_value.Variable a) (open_value.Variable b) (open_value.Variable c) p q =
        text_laws.trans (string_bytes a) (string_bytes b) (string_bytes c) p q
    transitive_layer (open_value.List xs) (open_value.List ys) (open_value.List us) p q =
        let zs = map (bare Transitive) xs.items in
        items_layer-is zs us.items
        ∙ all_lead (same_item (same_value E)) zs ys.items us.items
        (each_with item_leads zs (each_item Transitive xs.items)) (sym (items_layer-is zs ys.items) ∙ p)
        (sym (items_layer-is ys.items us.items) ∙ q)
    transitive_layer (open_value.Object es) (open_value.Object fs) (open_value.Object gs) p q =
        let zs = map (bare_entry Transitive) es.items in
        entries_layer-is zs gs.items
        ∙ all_lead (same_entry (same_value E)) zs fs.items gs.items
        (each_with entry_leads zs (each_entry Transitive es.items)) (sym (entries_layer-is zs fs.items) ∙ p)
        (sym (entries_layer-is fs.items gs.items) ∙ q)
    transitive_layer (open_value.Scalar a) (open_value.Scalar b) _ p q = q
    transitive_layer (open_value.Enum a) (open_value.Enum b) _ p q = q
    transitive_layer (open_value.Variable a) (open_value.Variable b) _ p q = q
    transitive_layer (open_value.List xs) (open_value.List ys) _ p q = q
    transitive_layer (open_value.Object es) (open_value.Object fs) _ p q = q
    transitive_layer _ _ _ p q = absurd (true≢false (sym p))

    transitive : (w : InputValue S) → Transitive w
    transitive = ind-InputValue S Transitive
        (λ x y is. subst (λ z. Transitive (roll-InputValue S z)) is
        (by_layer (λ w. (u : InputValue S) → same_value E (roll-InputValue S (bared y)) w ≡ true
        → same_value E w u ≡ true → same_value E (roll-InputValue S (bared y)) u ≡ true)
        (λ r. by_layer (λ u. same_value E (roll-InputValue S (bared y)) (roll-InputValue S r) ≡ true
        → same_value E (roll-InputValue S r) u ≡ true → same_value E (roll-InputValue S (bared y)) u ≡ true)
        (λ t p q. same_value-roll (bared y) t ∙ transitive_layer y r t (sym (same_value-roll (bared y) r) ∙ p)
        (sym (same_value-roll r t) ∙ q)))))

    pub same_value-laws : IsPartialEquivalence (same_value E)
    same_value-laws = record { symm = symmetric; trans = λ x y z. transitive x y z }
