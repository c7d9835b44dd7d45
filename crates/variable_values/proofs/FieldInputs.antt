-- The types of input fields are input types of the schema.
use Rattle.std.proofs.Common.{◌≡◌, ℕ, ◌<◌, List, [], ◌∷◌, ◌++◌, Bool, true, false, Some, map, length, get_or, zero, suc, ap, sym, ◌∙◌, subst, arith}
use Rattle.std.specs.List.{flat_map, list_all}
use Rattle.std.specs.Option.{option_map_or}
use Rattle.std.proofs.lemmas.Bool.{and_parts}
use Rattle.std.proofs.lemmas.List.Folds.{list_all-append}
use Rattle.meta.specs.declared.arguments.Argument.{Argument}
use Rattle.meta.specs.declared.inputs.InputObjectMetaOf.{InputObjectMetaOf}
use Rattle.meta.specs.declared.kinds.MetaTypeOf.{MetaTypeOf}
use Rattle.meta.specs.declared.kinds.MetaTypeOf.TheVariants as k
use Rattle.meta.specs.Kinds.{name_of_meta, is_input_meta}
use Rattle.schema_validation.specs.Accepted.{is_input_listed, is_named}
use Rattle.schema.specs.Catalog.{Catalog, type_in}
use Rattle.schema_validation.specs.Names.{argument_type, added_inputs, inputs_in}
use Rattle.schema.proofs.AcceptedLemmas.{find-kind}
use Rattle.schema_validation.proofs.Finds.{found-among}
use Rattle.variable_values.specs.Inputs.{is_input_in}

module _ {B : Type 0} (p : B → Bool) where
  front_of : (xs ys : List B) → list_all p (xs ++ ys) ≡ true → list_all p xs ≡ true
  front_of xs ys h = (and_parts (list_all p xs) (list_all p ys) (sym (list_all-append p xs ys) ∙ h)).0

  back_of : (xs ys : List B) → list_all p (xs ++ ys) ≡ true → list_all p ys ≡ true
  back_of xs ys h = (and_parts (list_all p xs) (list_all p ys) (sym (list_all-append p xs ys) ∙ h)).1

module _ {A B : Type 0} (p : B → Bool) where
  all_within : (f : A → List B) (xs : List A) (i : ℕ) (x : A) → i < length xs → get_or xs i x ≡ x → list_all p (flat_map f xs) ≡ true → list_all p (f x) ≡ true
  all_within f [] i x here e h = absurd (omega arith)
  all_within f (y ∷ ys) zero x here e h = subst (λ w. list_all p (f w) ≡ true) e (front_of p (f y) (flat_map f ys) h)
  all_within f (y ∷ ys) (suc i) x here e h = all_within f ys i x (omega arith) e (back_of p (f y) (flat_map f ys) h)

  all_mapped : (f : A → B) (xs : List A) (i : ℕ) (x : A) → i < length xs → get_or xs i x ≡ x → list_all p (map f xs) ≡ true → p (f x) ≡ true
  all_mapped f [] i x here e h = absurd (omega arith)
  all_mapped f (y ∷ ys) zero x here e h = subst (λ w. p (f w) ≡ true) e (and_parts (p (f y)) (list_all p (map f ys)) h).0
  all_mapped f (y ∷ ys) (suc i) x here e h = all_mapped f ys i x (omega arith) e (and_parts (p (f y)) (list_all p (map f ys)) h).1

-- the type of an input field of a type of the schema
pub field_input : {S C : Type 0} (schema : Catalog S C) (n : List ℕ) (o : InputObjectMetaOf S C) (i : ℕ) (a : Argument S) → type_in n schema ≡ Some (k.InputObject o) → i < length o.input_fields.items → a ≡ get_or o.input_fields.items i a → is_input_in schema (argument_type a) ≡ true
field_input {S} {C} schema n o i a known here is =
    let meta : MetaTypeOf S C = k.InputObject o in
    let test = is_input_listed schema.types in
    let at = found-among (is_named n) schema.types meta (sym known) in
    let named : list_all test (map argument_type o.input_fields.items) ≡ true =
    all_within test inputs_in schema.types at.0 meta at.1 at.2 (front_of test (flat_map inputs_in schema.types) added_inputs schema.accepted.inputs_input) in
    let one : test (argument_type a) ≡ true = all_mapped test argument_type o.input_fields.items i a here (sym is) named in
    let found = find-kind name_of_meta is_input_meta (argument_type a) schema.types schema.accepted.distinct one in
    ap (λ q. option_map_or is_input_meta q false) found.1 ∙ found.2
