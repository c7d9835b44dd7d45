-- The errors of an operation, and its variables.
use Rattle.std.proofs.Common.{◌≡◌, ℕ, Bool, true, false, List, [], ◌∷◌, Option, Some, None, IsPermutation, map, length, refl, ap, sym, ◌∙◌, subst, arith}
use Rattle.std.specs.BTreeMap.{get_by_text}
use Rattle.std.proofs.lemmas.List.Sorted.{length_permutation}
use Rattle.language.specs.declared.tree.Operation.{Operation}
use Rattle.language_types.specs.declared.types.TypeModifier.TheVariants as m
use Rattle.language_values.specs.declared.value.InputValue.{InputValue, out-InputValue, roll-out-InputValue, roll-InputValue}
use Rattle.language_values.specs.declared.value.InputValue.TheOpen as v
use Rattle.language_values.specs.declared.value.InputValue.TheVariants as variant
use Rattle.language_types.specs.Types.{IsNonNull, TypeShape, inner_of, outermost, printed, shape, wrapped_by}
use Rattle.meta.specs.Answers.{Answers}
use Rattle.schema.specs.Catalog.{Catalog}
use Rattle.events.specs.Node.{VariableEntry}
use Rattle.schema.specs.declared.model.dialect.Dialect.{Dialect}
use Rattle.schema.specs.declared.model.dialect.Dialect.TheVariants as dialect
use Rattle.variable_values.specs.Dialects.{in_october_2021, stands_in}
use Rattle.variable_values.specs.Faults.{Fault, Faults, here}
use Rattle.variable_values.specs.Inputs.{definitions_of}
use Rattle.variable_values.specs.Laws.{OneAnswer}
use Rattle.variable_values.specs.Messages.{OfDefinition, OfOperation, OfVariable, Unless, Values, error_at, given, invalid_text, messages_without, required_text, told_after, unless_null}
use Rattle.variable_values.specs.Texts.{null_text}
use Rattle.variable_values.proofs.Accepted.{accepted_where_asked}
use Rattle.variable_values.proofs.OneList.{One, each_all, one_in_turn, one_list}
use Rattle.variable_values.proofs.RowLaws.{moved, null_row, unwrapped}
use Rattle.variable_values_laws.specs.Conforms.{Conforms, VariablesConform, nothing}
use Rattle.variable_values_laws.specs.Laws as law
use Rattle.variable_values_laws.specs.Laws.{IsAnswer}
use Rattle.variable_values_laws.proofs.Conforming.{conforms, null_as, nullable_by}
use Rattle.variable_values_laws.proofs.NoFaults.{by_nullable, no_fault}
use Rattle.variable_values_laws.proofs.Parts.{in_turn_none, mapped_none, none_in_turn}
use Rattle.variable_values_laws.proofs.SortedOnce.{errors_once}

-- where no default stands in, something may be told, and else nothing is
unless_false : (b : Bool) (P : List (List ℕ) → Type 0) (ms : List (List ℕ)) → b ≡ false → Unless b P ms → P ms
unless_false true P ms e h = cc
unless_false false P ms e h = h

unless_none : (b : Bool) (P : List (List ℕ) → Type 0) → (b ≡ false → P []) → Unless b P []
unless_none true P h = refl
unless_none false P h = h refl

one_unless : (b : Bool) (P : List (List ℕ) → Type 0) → One P → One (Unless b P)
one_unless true P one ms ns p q = p ∙ sym q
one_unless false P one ms ns p q = one ms ns p q

-- no default stands in for a value that is there
never : (d : Dialect) → in_october_2021 d false ≡ false
never dialect.Juniper = refl
never dialect.October2021 = refl

no_length : {X : Type 0} (xs : List X) → length xs ≡ 0 → xs ≡ []
no_length [] e = refl
no_length (x ∷ xs) e = absurd (omega (arith, e))

module _ {S C : Type 0} (schema : Catalog S C) (may : Answers (InputValue S) C) (text : S → List ℕ) (str_of : S → Option (List ℕ)) where
  abbrev Told : List ℕ → TypeShape → Option (InputValue S) → List (List ℕ) → Type 0
  Told = OfVariable schema may text str_of

  pub faultless : law.FaultlessIffConforms schema may text str_of
  faultless value t = (conforms schema may text str_of value t, no_fault schema may text str_of)

  told_conforms : (name : List ℕ) (t : TypeShape) (value : InputValue S) (fs : List Fault) → Faults schema may text str_of value t fs → [] ≡ map (told_after (invalid_text name)) fs → Conforms schema may str_of (Some value) t
  told_conforms name t value fs h e = conforms schema may text str_of value t (subst (Faults schema may text str_of value t) (sym (mapped_none (told_after (invalid_text name)) fs e)) h)

  -- where nothing is told of a variable, its value conforms
  value_conforms : (name : List ℕ) (t : TypeShape) (value : InputValue S) (x : v.InputValue-F S (InputValue S)) → out-InputValue S value ≡ x → Told name t (unless_null value x) [] → Conforms schema may str_of (Some value) t
  value_conforms name t value v.Null is e =
      null_as schema may text str_of value t (sym (roll-out-InputValue S value) ∙ ap (roll-InputValue S) is ∙ variant.rolls-Null) (nullable_by (required_text name t) [] (outermost t.modifiers) e)
  value_conforms name t value (v.Scalar s) is (fs, h, e) = told_conforms name t value fs h e
  value_conforms name t value (v.Enum s) is (fs, h, e) = told_conforms name t value fs h e
  value_conforms name t value (v.Variable s) is (fs, h, e) = told_conforms name t value fs h e
  value_conforms name t value (v.List s) is (fs, h, e) = told_conforms name t value fs h e
  value_conforms name t value (v.Object s) is (fs, h, e) = told_conforms name t value fs h e

  variable_conforms : (name : List ℕ) (t : TypeShape) (o : Option (InputValue S)) → Told name t (given o) [] → Conforms schema may str_of o t
  variable_conforms name t None e = nothing t (nullable_by (required_text name t) [] (outermost t.modifiers) e)
  variable_conforms name t (Some value) h = value_conforms name t value (out-InputValue S value) refl h

  -- where it conforms, nothing is told of it
  module _ (one : OneAnswer may) where
    null_nullable : (value : InputValue S) (t : TypeShape) → value ≡ variant.Null → Faults schema may text str_of value t [] → ¬ (IsNonNull t)
    null_nullable value t e h n =
        let at = unwrapped t m.NonNull n in
        let told = moved schema may text str_of value t (wrapped_by m.NonNull (inner_of t)) (here (null_text (printed (wrapped_by m.NonNull (inner_of t)))) ∷ []) at (null_row schema may text str_of value (inner_of t) _ e refl) in
        let bad : [] ≡ here (null_text (printed (wrapped_by m.NonNull (inner_of t)))) ∷ [] = one_list schema may text str_of one value t [] _ h told in cc

    told_nothing : (name : List ℕ) (t : TypeShape) → ¬ (IsNonNull t) → [] ≡ messages_without name t
    told_nothing name t n = sym (by_nullable (required_text name t ∷ []) [] (outermost t.modifiers) n)

    value_none : (name : List ℕ) (t : TypeShape) (value : InputValue S) (x : v.InputValue-F S (InputValue S)) → out-InputValue S value ≡ x → Faults schema may text str_of value t [] → Told name t (unless_null value x) []
    value_none name t value v.Null is h = told_nothing name t (null_nullable value t (sym (roll-out-InputValue S value) ∙ ap (roll-InputValue S) is ∙ variant.rolls-Null) h)
    value_none name t value (v.Scalar s) is h = ([], h, refl)
    value_none name t value (v.Enum s) is h = ([], h, refl)
    value_none name t value (v.Variable s) is h = ([], h, refl)
    value_none name t value (v.List s) is h = ([], h, refl)
    value_none name t value (v.Object s) is h = ([], h, refl)

    variable_none : (name : List ℕ) (t : TypeShape) (o : Option (InputValue S)) → Conforms schema may str_of o t → Told name t (given o) []
    variable_none name t None h = told_nothing name t (no_fault schema may text str_of h)
    variable_none name t (Some value) h = value_none name t value (out-InputValue S value) refl (no_fault schema may text str_of h)

    -- ---- one list
    one_told : (name : List ℕ) (t : TypeShape) (o : Option (InputValue S)) → One (Told name t o)
    one_told name t None ms ns p q = p ∙ sym q
    one_told name t (Some value) ms ns (fs, h, e) (gs, i, f) = e ∙ ap (map (told_after (invalid_text name))) (one_list schema may text str_of one value t fs gs h i) ∙ sym f

    one_definition : (values : Values S) (d : VariableEntry S) → One (OfDefinition schema may text str_of values d)
    one_definition values d es fs (ms, h, e) (ns, i, f) =
        let value = get_by_text values d.0.item.now in
        let told = Told d.0.item.now (shape d.1.var_type.item) (given value) in
        e ∙ ap (map (error_at d.0.span.start)) (one_unless (stands_in schema d.1 value) told (one_told d.0.item.now (shape d.1.var_type.item) (given value)) ms ns h i) ∙ sym f

    pub one_list_of_errors : law.OneListOfErrors schema may text str_of
    one_list_of_errors values o =
        let gives = λ (i : ℕ) (d : VariableEntry S). OfDefinition schema may text str_of values d in
        one_in_turn gives 0 (definitions_of o) (each_all (λ d. (j : ℕ) → One (gives j d)) (λ d j. one_definition values d) (definitions_of o))

    -- ---- operations
    all_conform : (values : Values S) (o : Operation S) → OfOperation schema may text str_of values o [] → VariablesConform schema may str_of values o
    all_conform values o h = λ d c without.
        let value = get_by_text values d.0.item.now in
        let told = none_in_turn (λ (i : ℕ) (d : VariableEntry S). OfDefinition schema may text str_of values d) 0 (definitions_of o) d c h in
        let none_told = mapped_none (error_at d.0.span.start) told.1.0 told.1.2 in
        let of_value = Told d.0.item.now (shape d.1.var_type.item) (given value) in
        let those = unless_false (stands_in schema d.1 value) of_value told.1.0 without told.1.1 in
        variable_conforms d.0.item.now (shape d.1.var_type.item) value (subst of_value (sym none_told) those)

    none_told_of : (values : Values S) (o : Operation S) → VariablesConform schema may str_of values o → OfOperation schema may text str_of values o []
    none_told_of values o h =
        in_turn_none (λ (i : ℕ) (d : VariableEntry S). OfDefinition schema may text str_of values d) 0 (definitions_of o)
        (λ i d c.
        let value = get_by_text values d.0.item.now in
        let of_value = Told d.0.item.now (shape d.1.var_type.item) (given value) in
        ([], unless_none (stands_in schema d.1 value) of_value (λ without. variable_none d.0.item.now (shape d.1.var_type.item) value (h d c without)), refl))

    pub no_error : law.NoErrorIffConform schema may text str_of
    no_error values o es h = (
      λ e. all_conform values o (subst (OfOperation schema may text str_of values o) e h),
      λ all. one_list_of_errors values o es [] h (none_told_of values o all),
    )

    pub none_iff : law.NoneIffConforms schema may text str_of
    none_iff value t fs h = (
      λ e. conforms schema may text str_of value t (subst (Faults schema may text str_of value t) e h),
      λ c. one_list schema may text str_of one value t fs [] h (no_fault schema may text str_of c),
    )

    -- ---- answers
    pub one_answer : law.OneSortedAnswer schema may text str_of
    one_answer values o es fs a b =
        let same = one_list_of_errors values o a.faults.0 b.faults.0 a.faults.1 b.faults.1 in
        errors_once a.faults.0 es fs a.faults.2 (subst (λ zs. IsPermutation zs fs) (sym same) b.faults.2) a.sorted b.sorted

    pub empty_iff : law.EmptyIffConform schema may text str_of
    empty_iff values o es a =
        let just_if = no_error values o a.faults.0 a.faults.1 in
        let as_many = length_permutation a.faults.0 es a.faults.2 in (
          λ e. just_if.0 (no_length a.faults.0 (sym as_many ∙ ap length e)),
          λ all. no_length es (as_many ∙ ap length (just_if.1 all)),
        )

  pub accepted_where : law.AcceptedWhereConform schema may text str_of
  accepted_where values o d value c inner all among is asks =
      let without : stands_in schema d.1 (get_by_text values d.0.item.now) ≡ false = ap (stands_in schema d.1) is ∙ never schema.dialect in
      accepted_where_asked schema may text str_of value (shape d.1.var_type.item) c inner
      (no_fault schema may text str_of (subst (λ q. Conforms schema may str_of q (shape d.1.var_type.item)) is (all d among without))) asks
