-- A flat constant holds no variable.
use Rattle.std.proofs.Common.{◌≡◌, ℕ, List, [], ◌∷◌, ◌++◌, true, false, sym, ap, ◌∙◌, refl}
use Rattle.std.specs.Prelude.{Bool, String, Vec}
use Rattle.std.specs.List.{list_all, flat_map}
use Rattle.std.proofs.lemmas.List.Concat.{flat_map-cons}
use Rattle.std.proofs.lemmas.Bool.{and_parts}
use Rattle.std.specs.declared.alloc.Global.{Global}
use Rattle.language_values.specs.declared.value.InputValue.{InputValue, fold-roll-InputValue, roll-InputValue, out-roll-InputValue}
use Rattle.language_values.specs.declared.value.InputValue.TheVariants as v
use Rattle.language_values.specs.declared.value.InputValue.TheOpen.{InputValue-F}
use Rattle.language_values.specs.Values.{Entry, variables_step, variables_of, plain_layer, is_plain, flat_layer, is_flat_constant}
use Rattle.language_values.proofs.ValueInduction.{value_induction}
use Rattle.language_values.proofs.ValueLemmas.{variables_of-List, variables_of-Object}

-- nothing comes from members that pass a test that nothing comes from
none_of_all : {X A : Type 0} (test : X → Bool) (f : X → List A) → ((x : X) → test x ≡ true → f x ≡ []) → (xs : List X) → list_all test xs ≡ true → flat_map f xs ≡ []
none_of_all test f none [] e = refl
none_of_all test f none (x ∷ xs) e =
    flat_map-cons f x xs
    ∙ ap (λ z. z ++ flat_map f xs) (none x (and_parts (test x) (list_all test xs) e).0)
    ∙ none_of_all test f none xs (and_parts (test x) (list_all test xs) e).1

module _ {S : Type 0} where
  plain_of_layer : (x : InputValue-F S (InputValue S)) → is_plain (roll-InputValue S x) ≡ plain_layer x
  plain_of_layer x = ap plain_layer (out-roll-InputValue S x)

  flat_of_layer : (x : InputValue-F S (InputValue S)) → is_flat_constant (roll-InputValue S x) ≡ flat_layer x
  flat_of_layer x = ap flat_layer (out-roll-InputValue S x)

  none_in_null : (w : InputValue S) → w ≡ v.Null → variables_of w ≡ []
  none_in_null w e = ap variables_of (e ∙ sym v.rolls-Null) ∙ fold-roll-InputValue S (List (List ℕ)) variables_step InputValue-F.Null

  none_in_scalar : (s : S) → variables_of (v.Scalar s) ≡ []
  none_in_scalar s = ap variables_of (sym (v.rolls-Scalar s)) ∙ fold-roll-InputValue S (List (List ℕ)) variables_step (InputValue-F.Scalar s)

  none_in_enum : (w : InputValue S) (name : String Global) → w ≡ v.Enum name → variables_of w ≡ []
  none_in_enum w name e = ap variables_of (e ∙ sym (v.rolls-Enum name)) ∙ fold-roll-InputValue S (List (List ℕ)) variables_step (InputValue-F.Enum name)

  none_of_plain : (w : InputValue S) → is_plain w ≡ true → variables_of w ≡ []
  none_of_plain =
      value_induction (λ w. is_plain w ≡ true → variables_of w ≡ [])
      (λ e. none_in_null v.Null refl)
      (λ s e. none_in_scalar s)
      (λ name e. none_in_enum (v.Enum name) name refl)
      (λ name e. let bad : false ≡ true = sym (plain_of_layer (InputValue-F.Variable name)) ∙ ap is_plain (v.rolls-Variable name) ∙ e in cc)
      (λ vs below e. let bad : false ≡ true = sym (plain_of_layer (InputValue-F.List vs)) ∙ ap is_plain (v.rolls-List vs) ∙ e in cc)
      (λ es below e. let bad : false ≡ true = sym (plain_of_layer (InputValue-F.Object es)) ∙ ap is_plain (v.rolls-Object es) ∙ e in cc)

  pub none_of_flat : (w : InputValue S) → is_flat_constant w ≡ true → variables_of w ≡ []
  none_of_flat =
      value_induction (λ w. is_flat_constant w ≡ true → variables_of w ≡ [])
      (λ e. none_in_null v.Null refl)
      (λ s e. none_in_scalar s)
      (λ name e. none_in_enum (v.Enum name) name refl)
      (λ name e. let bad : false ≡ true = sym (flat_of_layer (InputValue-F.Variable name)) ∙ ap is_flat_constant (v.rolls-Variable name) ∙ e in cc)
      (λ vs below e. variables_of-List vs ∙ none_of_all (λ x. is_plain x.item) (λ x. variables_of x.item) (λ x. none_of_plain x.item) vs.items (sym (flat_of_layer (InputValue-F.List vs)) ∙ ap is_flat_constant (v.rolls-List vs) ∙ e))
      (λ es below e. variables_of-Object es ∙ none_of_all (λ x. is_plain x.1.item) (λ x. variables_of x.1.item) (λ x. none_of_plain x.1.item) es.items (sym (flat_of_layer (InputValue-F.Object es)) ∙ ap is_flat_constant (v.rolls-Object es) ∙ e))

  pub flat_at_object : (w : InputValue S) (es : Vec (Entry (InputValue S)) Global) → w ≡ v.Object es → is_flat_constant w ≡ list_all (λ e. is_plain e.1.item) es.items
  flat_at_object w es e = ap is_flat_constant (e ∙ sym (v.rolls-Object es)) ∙ flat_of_layer (InputValue-F.Object es)
