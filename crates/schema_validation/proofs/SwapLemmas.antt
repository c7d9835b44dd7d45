-- An accepted list stays accepted when the two fields are added to the root of queries.
use Rattle.std.proofs.Common.{◌≡◌, ℕ, List, [], ◌∷◌, ◌++◌, Bool, true, false, not, ◌&&◌, ◌||◌, Some, None, codes, string_bytes, map, option_map, is_some, refl, ap, subst, sym, ◌∙◌}
use Rattle.std.specs.List.{flat_map, list_any, list_all}
use Rattle.std.specs.Option.{option_map_or}
use Rattle.std.proofs.lemmas.Bool.{and_parts, and_from}
use Rattle.std.proofs.lemmas.Grind.{flat_map-append}
use Rattle.language_types.specs.Types.{shape}
use Rattle.meta.specs.declared.arguments.Argument.{Argument}
use Rattle.meta.specs.declared.fields.Field.{Field}
use Rattle.meta.specs.declared.objects.ObjectMeta.{ObjectMeta}
use Rattle.meta.specs.declared.kinds.MetaTypeOf.{MetaTypeOf}
use Rattle.meta.specs.declared.kinds.MetaTypeOf.TheVariants as m
use Rattle.schema_validation.specs.Accepted.{Roots, root_names, IsAccepted, is_named, is_listed, is_object_listed, is_input_listed}
use Rattle.schema_validation.specs.Added.{ArgumentShape, FieldShape, argument_shape, field_shape, schema_field, type_field, HasAddedFields, IsExtended}
use Rattle.meta.specs.Kinds.{name_of_meta, is_object_meta, is_input_meta}
use Rattle.schema_validation.specs.Named.{is_any_called, are_distinct}
use Rattle.schema_validation.specs.Names.{argument_type, field_inputs, field_names, inputs_in, names_in, members_of, added_inputs, added_names, all_names, all_inputs, all_members}
use Rattle.schema_validation.proofs.Refusals.{all-front, all-back, all-joined}

module _ {A : Type 0} (p : A → Bool) (a b : A) (same : p a ≡ p b) where
  any-swap : (xs ys : List A) → list_any p (xs ++ a ∷ ys) ≡ list_any p (xs ++ b ∷ ys)
  any-swap [] ys = ap (λ r. r || list_any p ys) same
  any-swap (x ∷ xs) ys = ap (λ r. p x || r) (any-swap xs ys)

  all-swap : (xs ys : List A) → list_all p (xs ++ a ∷ ys) ≡ list_all p (xs ++ b ∷ ys)
  all-swap [] ys = ap (λ r. r && list_all p ys) same
  all-swap (x ∷ xs) ys = ap (λ r. p x && r) (all-swap xs ys)

-- what all the names of a list pass, where one element is replaced by one whose names pass it if the other's do
flat-swap : {A B : Type 0} (p : B → Bool) (f : A → List B) (a b : A) → (list_all p (f a) ≡ true → list_all p (f b) ≡ true) → (xs ys : List A) → list_all p (flat_map f (xs ++ a ∷ ys)) ≡ true → list_all p (flat_map f (xs ++ b ∷ ys)) ≡ true
flat-swap p f a b step [] ys h = all-joined p (f b) (flat_map f ys) (step (all-front p (f a) (flat_map f ys) h)) (all-back p (f a) (flat_map f ys) h)
flat-swap p f a b step (x ∷ xs) ys h = all-joined p (f x) (flat_map f (xs ++ b ∷ ys)) (all-front p (f x) (flat_map f (xs ++ a ∷ ys)) h) (flat-swap p f a b step xs ys (all-back p (f x) (flat_map f (xs ++ a ∷ ys)) h))

-- the types of arguments, read from what they say
unfoldable pub shape_types : List ArgumentShape → List (List ℕ)
shape_types [] = []
shape_types (a ∷ rest) = a.arg_type.name ∷ shape_types rest

pub types-shape : {S : Type 0} (xs : List (Argument S)) → map argument_type xs ≡ shape_types (map argument_shape xs)
unfolding shape_types
types-shape [] = refl
types-shape (a ∷ rest) = ap (λ l. argument_type a ∷ l) (types-shape rest)

shape_inputs : FieldShape → List (List ℕ)
shape_inputs s = option_map_or shape_types s.arguments []

inputs-shape : {S : Type 0} (f : Field S) → field_inputs f ≡ shape_inputs (field_shape f)
unfolding shape_inputs
inputs-shape f = elim f.arguments as (λ o. map argument_type (option_map_or (λ v. v.items) o []) ≡ option_map_or shape_types (option_map (λ v. map argument_shape v.items) o) []) [ None ↦ refl | Some v ↦ types-shape v.items ]

schema-inputs : {S : Type 0} (f : Field S) → field_shape f ≡ schema_field → field_inputs f ≡ []
unfolding shape_inputs shape_types
schema-inputs f e = inputs-shape f ∙ ap shape_inputs e

type-inputs : {S : Type 0} (f : Field S) → field_shape f ≡ type_field → field_inputs f ≡ codes "String" ∷ []
unfolding shape_inputs shape_types
type-inputs f e = inputs-shape f ∙ ap shape_inputs e

module _ (S C : Type 0) (x y : ObjectMeta S) (added : HasAddedFields x y) where
  module _ (p : List ℕ → Bool) where
    inputs_step : p (codes "String") ≡ true → list_all p (inputs_in {S = S} {C = C} (m.Object x)) ≡ true → list_all p (inputs_in {S = S} {C = C} (m.Object y)) ≡ true
    inputs_step s h =
        let f = added.fields.0 in
        let g = added.fields.1 in
        let of_x : list_all p (flat_map field_inputs x.fields.items) ≡ true = all-front p (flat_map field_inputs x.fields.items) [] h in
        let of_f : list_all p (field_inputs f) ≡ true = ap (list_all p) (schema-inputs f added.fields.3) in
        let of_g : list_all p (field_inputs g) ≡ true = ap (list_all p) (type-inputs g added.fields.4) ∙ and_from (p (codes "String")) true s refl in
        let of_both : list_all p (flat_map field_inputs (f ∷ g ∷ [])) ≡ true = all-joined p (field_inputs f) (field_inputs g ++ []) of_f (all-joined p (field_inputs g) [] of_g refl) in
        let of_y : list_all p (flat_map field_inputs y.fields.items) ≡ true =
        ap (λ l. list_all p (flat_map field_inputs l)) added.fields.2 ∙ ap (list_all p) (flat_map-append field_inputs x.fields.items (f ∷ g ∷ [])) ∙ all-joined p (flat_map field_inputs x.fields.items) (flat_map field_inputs (f ∷ g ∷ [])) of_x of_both in
        all-joined p (flat_map field_inputs y.fields.items) [] of_y refl

    names_step : p (codes "__Schema") ≡ true → p (codes "__Type") ≡ true → p (codes "String") ≡ true → list_all p (names_in {S = S} {C = C} (m.Object x)) ≡ true → list_all p (names_in {S = S} {C = C} (m.Object y)) ≡ true
    names_step s t u h =
        let f = added.fields.0 in
        let g = added.fields.1 in
        let rest = λ (o : ObjectMeta S). map string_bytes o.interface_names.items ++ [] in
        let of_x : list_all p (flat_map field_names x.fields.items) ≡ true = all-front p (flat_map field_names x.fields.items) (rest x) h in
        let type_f : p (shape f.field_type).name ≡ true = ap (λ q. p q.field_type.name) added.fields.3 ∙ s in
        let type_g : p (shape g.field_type).name ≡ true = ap (λ q. p q.field_type.name) added.fields.4 ∙ t in
        let of_f : list_all p (field_names f) ≡ true = and_from (p (shape f.field_type).name) (list_all p (field_inputs f)) type_f (ap (list_all p) (schema-inputs f added.fields.3)) in
        let of_g : list_all p (field_names g) ≡ true = and_from (p (shape g.field_type).name) (list_all p (field_inputs g)) type_g (ap (list_all p) (type-inputs g added.fields.4) ∙ and_from (p (codes "String")) true u refl) in
        let of_both : list_all p (flat_map field_names (f ∷ g ∷ [])) ≡ true = all-joined p (field_names f) (field_names g ++ []) of_f (all-joined p (field_names g) [] of_g refl) in
        let of_y : list_all p (flat_map field_names y.fields.items) ≡ true =
        ap (λ l. list_all p (flat_map field_names l)) added.fields.2 ∙ ap (list_all p) (flat_map-append field_names x.fields.items (f ∷ g ∷ [])) ∙ all-joined p (flat_map field_names x.fields.items) (flat_map field_names (f ∷ g ∷ [])) of_x of_both in
        all-joined p (flat_map field_names y.fields.items) (rest y) of_y
        (ap (λ v. list_all p (map string_bytes v.items ++ [])) added.interfaces ∙ all-back p (flat_map field_names x.fields.items) (rest x) h)

  name-same : (n : List ℕ) → is_named {S = S} {C = C} n (m.Object y) ≡ is_named {S = S} {C = C} n (m.Object x)
  name-same n = ap (λ s. is_named {S = S} {C = C} n (m.Object (record x { name = s }))) added.name

  module _ (before after : List (MetaTypeOf S C)) where
    listed-same : is_listed (before ++ m.Object y ∷ after) ≡ is_listed (before ++ m.Object x ∷ after)
    listed-same = λ i n. any-swap (is_named n) (m.Object y) (m.Object x) (name-same n) before after i

    object-same : is_object_listed (before ++ m.Object y ∷ after) ≡ is_object_listed (before ++ m.Object x ∷ after)
    object-same = λ i n. any-swap (λ t. is_named n t && is_object_meta t) (m.Object y) (m.Object x) (ap (λ b. b && true) (name-same n)) before after i

    input-same : is_input_listed (before ++ m.Object y ∷ after) ≡ is_input_listed (before ++ m.Object x ∷ after)
    input-same = λ i n. any-swap (λ t. is_named n t && is_input_meta t) (m.Object y) (m.Object x) (ap (λ b. b && false) (name-same n)) before after i

  distinct-same : (before after : List (MetaTypeOf S C)) → are_distinct name_of_meta (before ++ m.Object y ∷ after) ≡ are_distinct name_of_meta (before ++ m.Object x ∷ after)
  distinct-same [] after = ap (λ s. not (is_any_called name_of_meta after (string_bytes s)) && are_distinct name_of_meta after) added.name
  distinct-same (b ∷ before) after =
      ap (λ l. option_map_or (λ n. not (l n)) (name_of_meta b) true && are_distinct name_of_meta (before ++ m.Object y ∷ after)) (listed-same before after)
      ∙ ap (λ r. option_map_or (λ n. not (is_any_called name_of_meta (before ++ m.Object x ∷ after) n)) (name_of_meta b) true && r) (distinct-same before after)

  module _ (roots : Roots) (before after : List (MetaTypeOf S C)) where
    at_added : (p : List ℕ → Bool) → list_all p (all_names (before ++ m.Object x ∷ after)) ≡ true → (p (codes "__Schema") ≡ true) × (p (codes "__Type") ≡ true) × (p (codes "String") ≡ true)
    at_added p h =
        let added_all : list_all p added_names ≡ true = all-back p (flat_map names_in (before ++ m.Object x ∷ after)) added_names h in
        let one = and_parts (p (codes "__Schema")) (list_all p (codes "__Type" ∷ added_inputs)) added_all in
        let two = and_parts (p (codes "__Type")) (list_all p added_inputs) one.1 in
        let three = and_parts (p (codes "String")) (list_all p (codes "Boolean" ∷ [])) two.1 in
        (one.0, two.0, three.0)

    names-kept : (p : List ℕ → Bool) → list_all p (all_names (before ++ m.Object x ∷ after)) ≡ true → list_all p (all_names (before ++ m.Object y ∷ after)) ≡ true
    names-kept p h =
        let given = at_added p h in
        all-joined p (flat_map names_in (before ++ m.Object y ∷ after)) added_names
        (flat-swap p names_in (m.Object x) (m.Object y) (names_step p given.0 given.1 given.2) before after (all-front p (flat_map names_in (before ++ m.Object x ∷ after)) added_names h))
        (all-back p (flat_map names_in (before ++ m.Object x ∷ after)) added_names h)

    inputs-kept : (p : List ℕ → Bool) → list_all p (all_inputs (before ++ m.Object x ∷ after)) ≡ true → list_all p (all_inputs (before ++ m.Object y ∷ after)) ≡ true
    inputs-kept p h =
        let added_all : list_all p added_inputs ≡ true = all-back p (flat_map inputs_in (before ++ m.Object x ∷ after)) added_inputs h in
        all-joined p (flat_map inputs_in (before ++ m.Object y ∷ after)) added_inputs
        (flat-swap p inputs_in (m.Object x) (m.Object y) (inputs_step p (and_parts (p (codes "String")) (list_all p (codes "Boolean" ∷ [])) added_all).0) before after (all-front p (flat_map inputs_in (before ++ m.Object x ∷ after)) added_inputs h))
        added_all

    members-kept : (p : List ℕ → Bool) → list_all p (all_members (before ++ m.Object x ∷ after)) ≡ true → list_all p (all_members (before ++ m.Object y ∷ after)) ≡ true
    members-kept p h = flat-swap p members_of (m.Object x) (m.Object y) (λ e. e) before after h

    pub accepted-kept : IsAccepted roots (before ++ m.Object x ∷ after) → IsAccepted roots (before ++ m.Object y ∷ after)
    accepted-kept a = record {
      named = all-swap (λ t. is_some (name_of_meta t)) (m.Object y) (m.Object x) refl before after ∙ a.named;
      distinct = distinct-same before after ∙ a.distinct;
      roots_listed = ap (λ p. list_all p (root_names roots)) (listed-same before after) ∙ a.roots_listed;
      query_object = ap (λ p. p roots.query) (object-same before after) ∙ a.query_object;
      names_listed = ap (λ p. list_all p (all_names (before ++ m.Object y ∷ after))) (listed-same before after) ∙ names-kept (is_listed (before ++ m.Object x ∷ after)) a.names_listed;
      members_objects = ap (λ p. list_all p (all_members (before ++ m.Object y ∷ after))) (object-same before after) ∙ members-kept (is_object_listed (before ++ m.Object x ∷ after)) a.members_objects;
      inputs_input = ap (λ p. list_all p (all_inputs (before ++ m.Object y ∷ after))) (input-same before after) ∙ inputs-kept (is_input_listed (before ++ m.Object x ∷ after)) a.inputs_input;
    }

pub accepted-extended : {S C : Type 0} (roots : Roots) (q : List ℕ) (ts us : List (MetaTypeOf S C)) → IsExtended q ts us → IsAccepted roots ts → IsAccepted roots us
accepted-extended {S} {C} roots q ts us e a =
    subst (IsAccepted roots) (sym e.new_is) (accepted-kept S C e.root e.extended e.added roots e.before e.after (subst (IsAccepted roots) e.old_is a))
