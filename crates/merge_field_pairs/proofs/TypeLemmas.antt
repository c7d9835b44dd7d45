-- The conflict of two types by their outermost modifiers.
use Rattle.std.proofs.Common.{◌≡◌, ◌+◌, ◌-◌, ◌<◌, List, [], ◌∷◌, ◌++◌, length, take, reverse, Bool, true, false, ◌&&◌, nat_eq, if◌then◌else◌, Option, Some, None, slice_get, get_or, refl, sym, ap, ◌∙◌, arith}
use Rattle.std.proofs.lemmas.List.{take_all, take_more, reverse-append, length-take}
use Rattle.std.proofs.lemmas.Option.{slice_get_within, slice_get-get_or, get_or_from_slice_get}
use Rattle.std.specs.Option.{option_eq}
use Rattle.language_types.specs.Types.{TypeShape, outermost, inner_of}
use Rattle.language_types.specs.declared.types.TypeModifier.{TypeModifier}
use Rattle.language_types.specs.declared.types.TypeModifier.TheVariants as m
use Rattle.merge_field_pairs.specs.declared.type_conflict.Settled.{Settled}
use Rattle.merge_field_pairs.specs.declared.type_conflict.Settled.TheVariants as s
use Rattle.schema.specs.Catalog.{Catalog}
use Rattle.merge_field_pairs.specs.TypeConflict.{do_layers_conflict, do_types_conflict, do_names_conflict, settled_of, by_settled, conflict_by_outermost}

split_last : {A : Type 0} (xs : List A) (x : A) → slice_get xs (length xs - 1) ≡ Some x → xs ≡ take (length xs - 1) xs ++ x ∷ []
split_last xs x h =
    let within : length xs - 1 < length xs = slice_get_within xs (length xs - 1) x h in
    sym (take_all (length xs - 1 + 1) xs (omega arith))
    ∙ take_more xs (length xs - 1) x within
    ∙ ap (λ y. take (length xs - 1) xs ++ y ∷ []) (get_or_from_slice_get xs (length xs - 1) x x h)

last_first : {A : Type 0} (xs : List A) (x : A) → slice_get xs (length xs - 1) ≡ Some x → reverse xs ≡ x ∷ reverse (take (length xs - 1) xs)
last_first xs x h = ap reverse (split_last xs x h) ∙ reverse-append (take (length xs - 1) xs) (x ∷ [])

none_last : {A : Type 0} (xs : List A) → slice_get xs (length xs - 1) ≡ None → reverse xs ≡ []
none_last [] h = refl
none_last (x ∷ xs) h =
    let there : slice_get (x ∷ xs) (length (x ∷ xs) - 1) ≡ Some (get_or (x ∷ xs) (length (x ∷ xs) - 1) x) = slice_get-get_or (x ∷ xs) (length (x ∷ xs) - 1) x (omega arith) in
    cc

module _ (names : Bool) (ms ns : List TypeModifier) where
  abbrev inner : Bool
  inner = do_layers_conflict names (reverse (take (length ms - 1) ms)) (reverse (take (length ns - 1) ns))

  at : (xs ys : List TypeModifier) (o p : Option TypeModifier) → reverse ms ≡ xs → reverse ns ≡ ys → do_layers_conflict names xs ys ≡ by_settled names inner (settled_of o p) → do_layers_conflict names (reverse ms) (reverse ns) ≡ by_settled names inner (settled_of o p)
  at xs ys o p h k e = ap (λ l. do_layers_conflict names l (reverse ns)) h ∙ ap (do_layers_conflict names xs) k ∙ e

  sizes : (b : Bool) → (b && inner) ≡ by_settled names inner (if b then s.Inside else s.Agreeing)
  sizes true = refl
  sizes false = refl

  layers-settled : (o p : Option TypeModifier) → outermost ms ≡ o → outermost ns ≡ p → do_layers_conflict names (reverse ms) (reverse ns) ≡ by_settled names inner (settled_of o p)
  layers-settled None None h k = at _ _ None None (none_last ms h) (none_last ns k) refl
  layers-settled None (Some m.NonNull) h k = at _ _ None (Some m.NonNull) (none_last ms h) (last_first ns m.NonNull k) refl
  layers-settled None (Some (m.List j)) h k = at _ _ None (Some (m.List j)) (none_last ms h) (last_first ns (m.List j) k) refl
  layers-settled (Some m.NonNull) None h k = at _ _ (Some m.NonNull) None (last_first ms m.NonNull h) (none_last ns k) refl
  layers-settled (Some m.NonNull) (Some m.NonNull) h k = at _ _ (Some m.NonNull) (Some m.NonNull) (last_first ms m.NonNull h) (last_first ns m.NonNull k) refl
  layers-settled (Some m.NonNull) (Some (m.List j)) h k = at _ _ (Some m.NonNull) (Some (m.List j)) (last_first ms m.NonNull h) (last_first ns (m.List j) k) refl
  layers-settled (Some (m.List i)) None h k = at _ _ (Some (m.List i)) None (last_first ms (m.List i) h) (none_last ns k) refl
  layers-settled (Some (m.List i)) (Some m.NonNull) h k = at _ _ (Some (m.List i)) (Some m.NonNull) (last_first ms (m.List i) h) (last_first ns m.NonNull k) refl
  layers-settled (Some (m.List i)) (Some (m.List j)) h k = at _ _ (Some (m.List i)) (Some (m.List j)) (last_first ms (m.List i) h) (last_first ns (m.List j) k) (sizes (option_eq nat_eq i j))

-- in the words of the rule
pub types_conflict-outermost : {S C : Type 0} (schema : Catalog S C) (t u : TypeShape) → do_types_conflict schema t u ≡ conflict_by_outermost schema t u
types_conflict-outermost schema t u =
    layers-settled (do_names_conflict schema t.name u.name) t.modifiers u.modifiers (outermost t.modifiers) (outermost u.modifiers) refl refl

-- by what the outermost modifiers say
pub conflict_at : {S C : Type 0} (schema : Catalog S C) (t u : TypeShape) (o p : Option TypeModifier) (v : Settled) → v ≡ settled_of o p → o ≡ outermost t.modifiers → p ≡ outermost u.modifiers
    → do_types_conflict schema t u ≡ by_settled (do_names_conflict schema t.name u.name) (do_types_conflict schema (inner_of t) (inner_of u)) v
conflict_at schema t u o p v h j k =
    types_conflict-outermost schema t u
    ∙ ap (by_settled (do_names_conflict schema t.name u.name) (do_types_conflict schema (inner_of t) (inner_of u)))
    (sym (h ∙ ap (λ x. settled_of x p) j ∙ ap (settled_of (outermost t.modifiers)) k))

-- what two types say by the types inside, where the code has them under other names
pub conflict_inside : {S C : Type 0} (schema : Catalog S C) (t u t' u' : TypeShape) (b : Bool) → b ≡ do_types_conflict schema t' u' → t' ≡ inner_of t → u' ≡ inner_of u → b ≡ do_types_conflict schema (inner_of t) (inner_of u)
conflict_inside schema t u t' u' b h j k = h ∙ ap (λ x. do_types_conflict schema x u') j ∙ ap (do_types_conflict schema (inner_of t)) k

-- a type with a modifier has fewer inside
pub inner_shorter : (ms : List TypeModifier) (x : TypeModifier) → outermost ms ≡ Some x → length (take (length ms - 1) ms) < length ms
inner_shorter ms x h =
    let within : length ms - 1 < length ms = slice_get_within ms (length ms - 1) x h in
    simp length-take (omega arith)
