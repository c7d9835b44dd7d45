-- Induction over values.
use Rattle.std.proofs.Common.{subst, sym, String}
use Rattle.std.specs.declared.vec.Vec.{Vec}
use Rattle.std.specs.declared.alloc.Global.{Global}
use Rattle.language_types.specs.declared.position.Spanning.{Spanning}
use Rattle.language_types.specs.declared.position.Span.{Span}
use Rattle.language_values.specs.declared.value.InputValue.{InputValue, ind-InputValue, map-InputValue, roll-InputValue}
use Rattle.language_values.specs.declared.value.InputValue.TheVariants as value
use Rattle.language_values.specs.declared.value.InputValue.TheOpen.{InputValue-F}
use Rattle.language_values.specs.Each.{Each}
use Rattle.language_values.specs.Values.{Entry}
pub use Rattle.language_values.specs.ValuesWith.{SuchValue, bare, bare_entry, each_item, each_entry}

module _ {S : Type 0} (P : InputValue S → Type 0) where
  at_value :
      P value.Null
      → ((s : S) → P (value.Scalar s))
      → ((name : String Global) → P (value.Enum name))
      → ((name : String Global) → P (value.Variable name))
      → ((xs : Vec (Spanning (InputValue S) Span) Global) → Each (λ x. P x.item) xs.items → P (value.List xs))
      → ((es : Vec (Entry (InputValue S)) Global) → Each (λ e. P e.1.item) es.items → P (value.Object es))
      → (y : InputValue-F S (SuchValue P)) → P (roll-InputValue S (map-InputValue S (SuchValue P) (InputValue S) (λ e. e.0) y))
  at_value on_null on_scalar on_enum on_variable on_list on_object InputValue-F.Null = subst P (sym value.rolls-Null) on_null
  at_value on_null on_scalar on_enum on_variable on_list on_object (InputValue-F.Scalar s) = subst P (sym (value.rolls-Scalar s)) (on_scalar s)
  at_value on_null on_scalar on_enum on_variable on_list on_object (InputValue-F.Enum name) = subst P (sym (value.rolls-Enum name)) (on_enum name)
  at_value on_null on_scalar on_enum on_variable on_list on_object (InputValue-F.Variable name) = subst P (sym (value.rolls-Variable name)) (on_variable name)
  at_value on_null on_scalar on_enum on_variable on_list on_object (InputValue-F.List xs) = subst P (sym (value.rolls-List _)) (on_list _ (each_item P xs.items))
  at_value on_null on_scalar on_enum on_variable on_list on_object (InputValue-F.Object es) = subst P (sym (value.rolls-Object _)) (on_object _ (each_entry P es.items))

  -- what holds of a value where it holds of each inside it holds of all
  pub value_induction :
      P value.Null
      → ((s : S) → P (value.Scalar s))
      → ((name : String Global) → P (value.Enum name))
      → ((name : String Global) → P (value.Variable name))
      → ((xs : Vec (Spanning (InputValue S) Span) Global) → Each (λ x. P x.item) xs.items → P (value.List xs))
      → ((es : Vec (Entry (InputValue S)) Global) → Each (λ e. P e.1.item) es.items → P (value.Object es))
      → (v : InputValue S) → P v
  value_induction on_null on_scalar on_enum on_variable on_list on_object =
      ind-InputValue S P (λ x y is. subst (λ z. P (roll-InputValue S z)) is (at_value on_null on_scalar on_enum on_variable on_list on_object y))
