-- A value has at most one fault against a type.
use Rattle.std.proofs.Common.{◌≡◌, ℕ, List, [], ◌∷◌, Bool, true, false, Option, Some, None, option_map, IsSome, length, reverse, refl, ap, sym, ◌∙◌, inl, inr, subst}
use Rattle.std.proofs.Math.Path.{transport}
use Rattle.language_types.specs.declared.position.Span.{Span}
use Rattle.language_types.specs.declared.position.Spanning.{Spanning}
use Rattle.language_types.specs.declared.types.TypeModifier.{TypeModifier}
use Rattle.language_types.specs.declared.types.TypeModifier.TheVariants as m
use Rattle.language_values.specs.declared.value.InputValue.{InputValue, roll-InputValue}
use Rattle.language_values.specs.declared.value.InputValue.TheOpen as v
use Rattle.language_values.specs.declared.value.InputValue.TheVariants as variant
use Rattle.language_values.specs.Each.{Each}
use Rattle.language_values.specs.Values.{Entry}
use Rattle.language_values.proofs.ValueInduction.{value_induction}
use Rattle.meta.specs.declared.arguments.Argument.{Argument}
use Rattle.meta.specs.declared.kinds.MetaTypeOf.{MetaTypeOf}
use Rattle.meta.specs.Answers.{Answers}
use Rattle.meta.specs.Kinds.{check_of_meta, input_field_named}
use Rattle.schema.specs.Catalog.{Catalog}
use Rattle.schema.specs.Wrapped.{WrappedMeta}
use Rattle.literals.specs.AnyLiteral.{takes_any}
use Rattle.literals.specs.FirstFault.{Telling, FirstFault}
use Rattle.literals.specs.Judged.{Is, IsNone, Judged, LacksFields, against_name, checked, entry, is_enum_meta, is_input_object_meta, judge_of, key_of, keyed, keys_of, object, other_length, printed_name, sized, unless_any, unless_enum, within}
use Rattle.literals.specs.Texts.{field_text, list_text}
use Rattle.literals.specs.Laws.{OneAnswer, OneFault}
use Rattle.literals.proofs.RowLaws.{Against, at_roll}

-- for two results for one thing
abbrev pub OneTold : (Option (List ℕ) → Type 0) → Type 0
OneTold told = (f g : Option (List ℕ)) → told f → told g → f ≡ g

one_first : {X : Type 0} (tells : Telling X) (at_end : Option (List ℕ) → Type 0) → OneTold at_end → (xs : List X) → Each (λ x. OneTold (tells x)) xs → OneTold (FirstFault tells at_end xs)
one_first tells at_end e [] h f g p q = e f g p q
one_first tells at_end e (x ∷ xs) (h, hs) f g (inl p) (inl q) = h f g p.0 q.0
one_first tells at_end e (x ∷ xs) (h, hs) f g (inl p) (inr q) = let none : f ≡ None = h f None p.0 q.0 in let bad : false ≡ true = subst IsSome none p.1 in cc
one_first tells at_end e (x ∷ xs) (h, hs) f g (inr p) (inl q) = let none : g ≡ None = h g None q.0 p.0 in let bad : false ≡ true = subst IsSome none q.1 in cc
one_first tells at_end e (x ∷ xs) (h, hs) f g (inr p) (inr q) = one_first tells at_end e xs hs f g p.1 q.1

pub each_of : {X : Type 0} (P Q : X → Type 0) → ((x : X) → P x → Q x) → (xs : List X) → Each P xs → Each Q xs
each_of P Q h [] e = tt
each_of P Q h (x ∷ xs) (p, ps) = (h x p, each_of P Q h xs ps)

wrapped_same : {S C : Type 0} (w u : WrappedMeta S C) → w.meta ≡ u.meta → w.modifiers ≡ u.modifiers → w ≡ u
wrapped_same {S} {C} w u p q =
    ap (λ (t : MetaTypeOf S C). let r : WrappedMeta S C = record { meta = t; modifiers = w.modifiers } in r) p
    ∙ ap (λ (ms : List TypeModifier). let r : WrappedMeta S C = record { meta = u.meta; modifiers = ms } in r) q

module _ {S C : Type 0} (schema : Catalog S C) (may : Answers (InputValue S) C) (shown : InputValue S → List ℕ) (one : OneAnswer may) where
  one_checked : (o : Option C) (value : InputValue S) (meta : MetaTypeOf S C) → OneTold (checked may shown o value meta)
  one_checked None value meta f g p q = p ∙ sym q
  one_checked (Some c) value meta None None p q = refl
  one_checked (Some c) value meta None (Some n) p q = absurd (one c value _ _ p q.2.2)
  one_checked (Some c) value meta (Some n) None p q = absurd (one c value _ _ p.2.2 q)
  one_checked (Some c) value meta (Some n) (Some k) p q = ap (λ s. Some s) (p.0 ∙ sym q.0)

  one_scalar : (b : Bool) (value : InputValue S) (meta : MetaTypeOf S C) → OneTold (unless_enum may shown b value meta)
  one_scalar true value meta f g p q = p ∙ sym q
  one_scalar false value meta f g p q = one_checked (check_of_meta meta) value meta f g p q

  one_unless_any : (b : Bool) (value : InputValue S) (meta : MetaTypeOf S C) (told : Option (List ℕ) → Type 0) → OneTold told → OneTold (λ f. unless_any may shown b value meta f (told f))
  one_unless_any true value meta told h f g p q = one_checked (check_of_meta meta) value meta f g p q
  one_unless_any false value meta told h f g p q = h f g p q

  one_sized : (o : Option ℕ) (found : ℕ) (value : InputValue S) (told : Option (List ℕ) → Type 0) → OneTold told → OneTold (λ f. sized may shown o found value f (told f))
  one_sized None found value told h f g p q = h f g p q
  one_sized (Some wanted) found value told h f g p q = p ∙ sym q

  -- of a value at every type
  abbrev One : InputValue S → Type 0
  One value = (w : WrappedMeta S C) → OneTold (Judged schema may shown value w)

  one_keyed : (meta : MetaTypeOf S C) (key : List ℕ) (a : Option (Argument S)) (value : InputValue S) → One value → OneTold (keyed schema may shown (λ y. y) (judge_of schema may shown) meta key a value)
  one_keyed meta key None value h f g p q = p ∙ sym q
  one_keyed meta key (Some a) value h f g (w, made, n, told, is) (u, made', k, told', is') =
      let metas : w.meta ≡ u.meta = (let here = made.0 in let there = made'.0 in cc) in
      let same : w ≡ u = wrapped_same w u metas (made.1 ∙ sym made'.1) in
      let faults : n ≡ k = h u n k (subst (λ z. Judged schema may shown value z n) same told) told' in
      is ∙ ap (option_map (field_text (printed_name meta) key)) faults ∙ sym is'

  -- what a value contains has one fault
  abbrev Inside : v.InputValue-F S (InputValue S) → Type 0
  Inside (v.List xs) = Each (λ x. One x.item) xs.items
  Inside (v.Object es) = Each (λ e. One e.1.item) es.items
  Inside _ = Unit {0}

  one_object : (b : Bool) (meta : MetaTypeOf S C) (es : List (Entry (InputValue S))) → Each (λ e. One e.1.item) es → OneTold (object schema may shown (λ y. y) (judge_of schema may shown) b meta es)
  one_object false meta es h f g p q = p ∙ sym q
  one_object true meta es h f g p q =
      one_first (entry schema may shown (λ y. y) (judge_of schema may shown) meta) (LacksFields meta (keys_of es)) (λ a b k l. k ∙ sym l) es
      (each_of (λ (e : Entry (InputValue S)). One e.1.item) (λ e. OneTold (entry schema may shown (λ y. y) (judge_of schema may shown) meta e)) (λ e. one_keyed meta (key_of e) (input_field_named (key_of e) meta) e.1.item) es h) f g p q

  one_named : (x : v.InputValue-F S (InputValue S)) (value : InputValue S) (meta : MetaTypeOf S C) → Inside x → OneTold (against_name schema may shown (λ y. y) (judge_of schema may shown) x value meta)
  one_named v.Null value meta h f g p q = p ∙ sym q
  one_named (v.Variable n) value meta h f g p q = p ∙ sym q
  one_named (v.Scalar s) value meta h f g p q = one_scalar (is_enum_meta meta) value meta f g p q
  one_named (v.Enum n) value meta h f g p q = one_checked (check_of_meta meta) value meta f g p q
  one_named (v.List xs) value meta h f g p q = one_unless_any (takes_any schema meta) value meta (Is list_text) (λ a b k l. k ∙ sym l) f g p q
  one_named (v.Object es) value meta h f g p q =
      one_unless_any (takes_any schema meta) value meta (object schema may shown (λ y. y) (judge_of schema may shown) (is_input_object_meta meta) meta es.items) (one_object (is_input_object_meta meta) meta es.items h) f g p q

  one_against : (x : v.InputValue-F S (InputValue S)) (value : InputValue S) (ms : List TypeModifier) (meta : MetaTypeOf S C) → Inside x → OneTold (Against schema may shown x value ms meta)
  one_against x value [] meta h f g p q = one_named x value meta h f g p q
  one_against v.Null value (m.NonNull ∷ ms) meta h f g p q = p ∙ sym q
  one_against (v.Variable n) value (m.NonNull ∷ ms) meta h f g p q = one_against (v.Variable n) value ms meta h f g p q
  one_against (v.Scalar s) value (m.NonNull ∷ ms) meta h f g p q = one_against (v.Scalar s) value ms meta h f g p q
  one_against (v.Enum n) value (m.NonNull ∷ ms) meta h f g p q = one_against (v.Enum n) value ms meta h f g p q
  one_against (v.List xs) value (m.NonNull ∷ ms) meta h f g p q = one_against (v.List xs) value ms meta h f g p q
  one_against (v.Object es) value (m.NonNull ∷ ms) meta h f g p q = one_against (v.Object es) value ms meta h f g p q
  one_against v.Null value (m.List size ∷ ms) meta h f g p q = p ∙ sym q
  one_against (v.Variable n) value (m.List size ∷ ms) meta h f g p q = p ∙ sym q
  one_against (v.Scalar s) value (m.List size ∷ ms) meta h f g p q = one_sized (other_length size 1) 1 value (Against schema may shown (v.Scalar s) value ms meta) (one_against (v.Scalar s) value ms meta h) f g p q
  one_against (v.Enum n) value (m.List size ∷ ms) meta h f g p q = one_sized (other_length size 1) 1 value (Against schema may shown (v.Enum n) value ms meta) (one_against (v.Enum n) value ms meta h) f g p q
  one_against (v.Object es) value (m.List size ∷ ms) meta h f g p q = one_sized (other_length size 1) 1 value (Against schema may shown (v.Object es) value ms meta) (one_against (v.Object es) value ms meta h) f g p q
  one_against (v.List xs) value (m.List size ∷ ms) meta h f g p q =
      one_sized (other_length size (length xs.items)) (length xs.items) value (FirstFault (λ x. Judged schema may shown x.item (within ms meta)) IsNone xs.items)
      (one_first (λ x. Judged schema may shown x.item (within ms meta)) IsNone (λ a b k l. k ∙ sym l) xs.items
      (each_of (λ (x : Spanning (InputValue S) Span). One x.item) (λ x. OneTold (Judged schema may shown x.item (within ms meta))) (λ x k. k (within ms meta)) xs.items h)) f g p q

  one_at : (value : InputValue S) (x : v.InputValue-F S (InputValue S)) → value ≡ roll-InputValue S x → Inside x → One value
  one_at value x e h w f g p q =
      one_against x value (reverse w.modifiers) w.meta h f g (transport (at_roll schema may shown value x w f e) p) (transport (at_roll schema may shown value x w g e) q)

  -- the fault is one
  pub one_fault : OneFault schema may shown
  one_fault =
      value_induction One
      (one_at _ v.Null (sym variant.rolls-Null) tt)
      (λ s. one_at _ (v.Scalar s) (sym (variant.rolls-Scalar s)) tt)
      (λ n. one_at _ (v.Enum n) (sym (variant.rolls-Enum n)) tt)
      (λ n. one_at _ (v.Variable n) (sym (variant.rolls-Variable n)) tt)
      (λ xs h. one_at _ (v.List xs) (sym (variant.rolls-List xs)) h)
      (λ es h. one_at _ (v.Object es) (sym (variant.rolls-Object es)) h)
