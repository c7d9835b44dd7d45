-- The types of input fields are in the schema.
use Rattle.std.proofs.Common.{◌≡◌, ℕ, ◌<◌, List, [], ◌∷◌, ◌++◌, Some, true, map, length, get_or, zero, suc, string_bytes, sym, subst, arith}
use Rattle.std.specs.Prelude.{Contains}
use Rattle.std.specs.List.{flat_map}
use Rattle.std.specs.Str.{bytes_eq}
use Rattle.std.proofs.lemmas.List.Elements.{Contains-append_left, Contains-append_right, Contains-get_or}
use Rattle.meta.specs.declared.arguments.Argument.{Argument}
use Rattle.meta.specs.declared.kinds.MetaTypeOf.{MetaTypeOf}
use Rattle.meta.specs.Kinds.{fields_of, input_fields_of, input_field_named}
use Rattle.schema_validation.specs.Accepted.{is_listed, is_named}
use Rattle.schema.specs.Catalog.{Catalog, type_in}
use Rattle.schema_validation.specs.Names.{argument_type, field_names, interfaces_of, members_of, names_in, all_names, added_names}
use Rattle.schema_validation.proofs.Finds.{all-at, found-among}

-- an element of what an element gives
within_part : {A B : Type 0} (f : A → List B) (xs : List A) (i : ℕ) (d x : A) (b : B) → i < length xs → get_or xs i d ≡ x → Contains (f x) b → Contains (flat_map f xs) b
within_part f [] i d x b h e k = absurd (omega arith)
within_part f (y ∷ ys) zero d x b h e k = Contains-append_left (f y) (flat_map f ys) b (subst (λ w. Contains (f w) b) (sym e) k)
within_part f (y ∷ ys) (suc i) d x b h e k = Contains-append_right (f y) (flat_map f ys) b (within_part f ys i d x b (omega arith) e k)

mapped : {A B : Type 0} (f : A → B) (xs : List A) (i : ℕ) (d x : A) → i < length xs → get_or xs i d ≡ x → Contains (map f xs) (f x)
mapped f [] i d x h e = absurd (omega arith)
mapped f (y ∷ ys) zero d x h e = subst (λ w. Contains (f y ∷ map f ys) (f w)) e (Contains-get_or (f y ∷ map f ys) 0 (f y) (omega arith))
mapped f (y ∷ ys) (suc i) d x h e = Contains-append_right (f y ∷ []) (map f ys) (f x) (mapped f ys i d x (omega arith) e)

-- the type of an input field of a type of the schema is listed
pub field_listed : {S C : Type 0} (schema : Catalog S C) (n key : List ℕ) (meta : MetaTypeOf S C) (a : Argument S) → type_in n schema ≡ Some meta → input_field_named key meta ≡ Some a → is_listed schema.types (argument_type a) ≡ true
field_listed schema n key meta a known found =
    let field = found-among (λ x. bytes_eq (string_bytes x.name) key) (input_fields_of meta) a (sym found) in
    let named : Contains (map argument_type (input_fields_of meta)) (argument_type a) = mapped argument_type (input_fields_of meta) field.0 a a field.1 field.2 in
    let one : Contains (names_in meta) (argument_type a) =
    Contains-append_right (flat_map field_names (fields_of meta)) (map argument_type (input_fields_of meta) ++ (interfaces_of meta ++ members_of meta)) (argument_type a)
    (Contains-append_left (map argument_type (input_fields_of meta)) (interfaces_of meta ++ members_of meta) (argument_type a) named) in
    let at = found-among (is_named n) schema.types meta (sym known) in
    let all : Contains (all_names schema.types) (argument_type a) =
    Contains-append_left (flat_map names_in schema.types) added_names (argument_type a) (within_part names_in schema.types at.0 meta meta (argument_type a) at.1 at.2 one) in
    all-at (is_listed schema.types) (all_names schema.types) (argument_type a) schema.accepted.names_listed all
