-- The outermost level of values and of selections, and the nodes and outlines by it.
use Rattle.std.proofs.Common.{◌≡◌, ap, sym, ◌∙◌, String}
use Rattle.std.specs.Prelude.{Vec}
use Rattle.std.specs.declared.alloc.Global.{Global}
use Rattle.language_types.specs.declared.position.Span.{Span}
use Rattle.language.specs.declared.tree.Selection.{Selection, out-Selection}
use Rattle.language.specs.declared.tree.Selection.TheVariants as selection
use Rattle.language.specs.declared.tree.Selection.TheOpen as opened_selection
use Rattle.language.specs.declared.tree.Field.{Field}
use Rattle.language.specs.declared.tree.FragmentSpread.{FragmentSpread}
use Rattle.language.specs.declared.tree.InlineFragment.{InlineFragment}
use Rattle.language_values.specs.declared.value.InputValue.{InputValue, out-InputValue, roll-InputValue, roll-out-InputValue}
use Rattle.language_values.specs.declared.value.InputValue.TheVariants as v
use Rattle.language_values.specs.declared.value.InputValue.TheOpen as opened
use Rattle.schema.specs.Catalog.{Catalog}
use Rattle.events.specs.Node.{Placed, ObjectEntry}
use Rattle.events.specs.Typing.{Typing}
use Rattle.events.specs.Outline.{node_with, outline_of_bare_value, outline_of_value}
use Rattle.events.specs.Place.{node_of_level, node_of_value, inside_level, inside_value}
use Rattle.events.proofs.ValueOutlines.{of_null, of_scalar, of_enum, of_variable, of_list, of_object}

module _ {S : Type 0} where
  pub null_level : (w : InputValue S) → w ≡ v.Null → out-InputValue S w ≡ opened.Null
  null_level w e = ap (out-InputValue S) e ∙ v.outs-Null

  pub scalar_level : (w : InputValue S) (s : S) → w ≡ v.Scalar s → out-InputValue S w ≡ opened.Scalar s
  scalar_level w s e = ap (out-InputValue S) e ∙ v.outs-Scalar s

  pub enum_level : (w : InputValue S) (s : String Global) → w ≡ v.Enum s → out-InputValue S w ≡ opened.Enum s
  enum_level w s e = ap (out-InputValue S) e ∙ v.outs-Enum s

  pub variable_level : (w : InputValue S) (s : String Global) → w ≡ v.Variable s → out-InputValue S w ≡ opened.Variable s
  variable_level w s e = ap (out-InputValue S) e ∙ v.outs-Variable s

  pub list_level : (w : InputValue S) (xs : Vec (Placed (InputValue S)) Global) → w ≡ v.List xs → out-InputValue S w ≡ opened.List xs
  list_level w xs e = ap (out-InputValue S) e ∙ v.outs-List xs

  pub object_level : (w : InputValue S) (es : Vec (ObjectEntry S) Global) → w ≡ v.Object es → out-InputValue S w ≡ opened.Object es
  object_level w es e = ap (out-InputValue S) e ∙ v.outs-Object es

  pub field_level : (s : Selection S) (f : Placed (Field S)) → s ≡ selection.Field f → out-Selection S s ≡ opened_selection.Field f
  field_level s f e = ap (out-Selection S) e ∙ selection.outs-Field f

  pub spread_level : (s : Selection S) (f : Placed (FragmentSpread S)) → s ≡ selection.FragmentSpread f
      → out-Selection S s ≡ opened_selection.FragmentSpread f
  spread_level s f e = ap (out-Selection S) e ∙ selection.outs-FragmentSpread f

  pub inline_level : (s : Selection S) (f : Placed (InlineFragment S)) → s ≡ selection.InlineFragment f
      → out-Selection S s ≡ opened_selection.InlineFragment f
  inline_level s f e = ap (out-Selection S) e ∙ selection.outs-InlineFragment f

module _ {S C : Type 0} (schema : Catalog S C) where
  of_level : (l : opened.InputValue-F S (InputValue S)) (p : Span) (t : Typing S C)
      → outline_of_bare_value schema (roll-InputValue S l) p t ≡ node_with (node_of_level l p) t (inside_level schema t l)
  of_level opened.Null p t = ap (λ w. outline_of_bare_value schema w p t) v.rolls-Null ∙ of_null schema p t
  of_level (opened.Scalar s) p t = ap (λ w. outline_of_bare_value schema w p t) (v.rolls-Scalar s) ∙ of_scalar schema s p t
  of_level (opened.Enum s) p t = ap (λ w. outline_of_bare_value schema w p t) (v.rolls-Enum s) ∙ of_enum schema s p t
  of_level (opened.Variable s) p t = ap (λ w. outline_of_bare_value schema w p t) (v.rolls-Variable s) ∙ of_variable schema s p t
  of_level (opened.List xs) p t = ap (λ w. outline_of_bare_value schema w p t) (v.rolls-List xs) ∙ of_list schema xs p t
  of_level (opened.Object es) p t = ap (λ w. outline_of_bare_value schema w p t) (v.rolls-Object es) ∙ of_object schema es p t

  -- a value is a node with what stands in it
  pub of_value : (t : Typing S C) (x : Placed (InputValue S))
      → outline_of_value schema t x ≡ node_with (node_of_value x) t (inside_value schema t x.item)
  of_value t x =
      ap (λ w. outline_of_bare_value schema w x.span t) (sym (roll-out-InputValue S x.item)) ∙ of_level (out-InputValue S x.item) x.span t
