-- The outline of each kind of value.
use Rattle.std.proofs.Common.{◌≡◌, List, [], ◌∷◌, map, sym, ap, ◌∙◌, refl, String, string_bytes}
use Rattle.std.specs.Prelude.{Vec}
use Rattle.std.specs.declared.alloc.Global.{Global}
use Rattle.language_types.specs.declared.position.Span.{Span}
use Rattle.language_values.specs.declared.value.InputValue.{InputValue}
use Rattle.language_values.specs.declared.value.InputValue.TheVariants as v
use Rattle.language_values.specs.declared.value.InputValue.TheOpen as opened
use Rattle.language_values.specs.declared.value.InputValue.TheFolds.{para-roll-InputValue}
use Rattle.schema.specs.Catalog.{Catalog}
use Rattle.events.specs.Node
use Rattle.events.specs.Node.{Placed, ObjectEntry}
use Rattle.events.specs.Typing.{Typing, at_items, at_object_field}
use Rattle.events.specs.Outline.{Outline, BelowValue, empty, beside, each, node_with, item_of, entry_of, value_step, outline_of_bare_value, outline_of_value, outline_of_object_field}

module _ {S C : Type 0} (schema : Catalog S C) where
  abbrev with_outline : Placed (InputValue S) → Placed (InputValue S × BelowValue S C)
  with_outline x = record { item = (x.item, outline_of_bare_value schema x.item); span = x.span }

  abbrev entry_with_outline : ObjectEntry S → Placed (String Global) × Placed (InputValue S × BelowValue S C)
  entry_with_outline e = (e.0, with_outline e.1)

  items : (xs : List (Placed (InputValue S))) → map item_of (map with_outline xs) ≡ xs
  items [] = refl
  items (x ∷ xs) = ap (λ ys. x ∷ ys) (items xs)

  outlines : (t : Typing S C) (xs : List (Placed (InputValue S))) → each (λ (w : Placed (InputValue S × BelowValue S C)). w.item.1 w.span t) (map with_outline xs) ≡ each (outline_of_value schema t) xs
  outlines t [] = refl
  outlines t (x ∷ xs) = ap (λ ys. beside (outline_of_value schema t x) ys) (outlines t xs)

  entries : (xs : List (ObjectEntry S)) → map entry_of (map entry_with_outline xs) ≡ xs
  entries [] = refl
  entries (x ∷ xs) = ap (λ ys. x ∷ ys) (entries xs)

  abbrev entry_outline : Typing S C → Placed (String Global) × Placed (InputValue S × BelowValue S C) → Outline S C
  entry_outline t e =
      let u = at_object_field schema t (string_bytes e.0.item) in node_with (Node.object_field (entry_of e)) u (e.1.item.1 e.1.span u)

  entry_outlines : (t : Typing S C) (xs : List (ObjectEntry S)) → each (entry_outline t) (map entry_with_outline xs) ≡ each (outline_of_object_field schema t) xs
  entry_outlines t [] = refl
  entry_outlines t (x ∷ xs) = ap (λ ys. beside (outline_of_object_field schema t x) ys) (entry_outlines t xs)

  pub of_null : (p : Span) (t : Typing S C) → outline_of_bare_value schema v.Null p t ≡ node_with (Node.null_value p) t empty
  unfolding outline_of_bare_value
  of_null p t =
      ap (λ (w : InputValue S). outline_of_bare_value schema w p t) (sym v.rolls-Null)
      ∙ ap (λ (b : BelowValue S C). b p t) (para-roll-InputValue S (BelowValue S C) (value_step schema) opened.Null)

  pub of_scalar : (s : S) (p : Span) (t : Typing S C) → outline_of_bare_value schema (v.Scalar s) p t ≡ node_with (Node.scalar_value (record { item = s; span = p })) t empty
  unfolding outline_of_bare_value
  of_scalar s p t =
      ap (λ (w : InputValue S). outline_of_bare_value schema w p t) (sym (v.rolls-Scalar s))
      ∙ ap (λ (b : BelowValue S C). b p t) (para-roll-InputValue S (BelowValue S C) (value_step schema) (opened.Scalar s))

  pub of_enum : (s : String Global) (p : Span) (t : Typing S C) → outline_of_bare_value schema (v.Enum s) p t ≡ node_with (Node.enum_value (record { item = string_bytes s; span = p })) t empty
  unfolding outline_of_bare_value
  of_enum s p t =
      ap (λ (w : InputValue S). outline_of_bare_value schema w p t) (sym (v.rolls-Enum s))
      ∙ ap (λ (b : BelowValue S C). b p t) (para-roll-InputValue S (BelowValue S C) (value_step schema) (opened.Enum s))

  pub of_variable : (s : String Global) (p : Span) (t : Typing S C) → outline_of_bare_value schema (v.Variable s) p t ≡ node_with (Node.variable_value (record { item = string_bytes s; span = p })) t empty
  unfolding outline_of_bare_value
  of_variable s p t =
      ap (λ (w : InputValue S). outline_of_bare_value schema w p t) (sym (v.rolls-Variable s))
      ∙ ap (λ (b : BelowValue S C). b p t) (para-roll-InputValue S (BelowValue S C) (value_step schema) (opened.Variable s))

  pub of_list : (xs : Vec (Placed (InputValue S)) Global) (p : Span) (t : Typing S C) → outline_of_bare_value schema (v.List xs) p t ≡ node_with (Node.list_value (record { item = xs.items; span = p })) t (each (outline_of_value schema (at_items t)) xs.items)
  unfolding outline_of_bare_value
  of_list xs p t =
      ap (λ (w : InputValue S). outline_of_bare_value schema w p t) (sym (v.rolls-List xs))
      ∙ ap (λ (b : BelowValue S C). b p t) (para-roll-InputValue S (BelowValue S C) (value_step schema) (opened.List xs))
      ∙ ap (λ ys. node_with (Node.list_value (record { item = ys; span = p })) t (each (λ (w : Placed (InputValue S × BelowValue S C)). w.item.1 w.span (at_items t)) (map with_outline xs.items))) (items xs.items)
      ∙ ap (λ z. node_with (Node.list_value (record { item = xs.items; span = p })) t z) (outlines (at_items t) xs.items)

  pub of_object : (xs : Vec (ObjectEntry S) Global) (p : Span) (t : Typing S C) → outline_of_bare_value schema (v.Object xs) p t ≡ node_with (Node.object_value (record { item = xs.items; span = p })) t (each (outline_of_object_field schema t) xs.items)
  unfolding outline_of_bare_value
  of_object xs p t =
      ap (λ (w : InputValue S). outline_of_bare_value schema w p t) (sym (v.rolls-Object xs))
      ∙ ap (λ (b : BelowValue S C). b p t) (para-roll-InputValue S (BelowValue S C) (value_step schema) (opened.Object xs))
      ∙ ap (λ ys. node_with (Node.object_value (record { item = ys; span = p })) t (each (entry_outline t) (map entry_with_outline xs.items))) (entries xs.items)
      ∙ ap (λ z. node_with (Node.object_value (record { item = xs.items; span = p })) t z) (entry_outlines t xs.items)
