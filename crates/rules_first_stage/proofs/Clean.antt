-- What is true of a document where nothing is found.
use Rattle.std.proofs.Common.{◌≡◌, ℕ, List, [], ◌∷◌, Option, None, Some, Bool, true, false, refl, ap, sym, subst, ◌∙◌, zero, suc, slice_get}
use Rattle.std.specs.List.{Contains, list_all}
use Rattle.std.specs.Option.{is_some, option_map_or}
use Rattle.std.proofs.lemmas.Bool.{and_from, true≢false}
use Rattle.language_types.specs.Types.{shape}
use Rattle.language_values.specs.ValuesEqual.{are_distinct}
use Rattle.language.specs.declared.tree.Arguments.{Arguments}
use Rattle.language.specs.declared.tree.Definition.{Definition}
use Rattle.language.specs.declared.tree.VariableDefinitions.{VariableDefinitions}
use Rattle.meta.specs.Kinds.{is_input_meta}
use Rattle.schema.specs.Catalog.{Catalog, type_in}
use Rattle.events.specs.Node.{Node, Name, Placed, ObjectEntry, VariableEntry, fragment_spread, object_value}
use Rattle.events.specs.Node as node
use Rattle.events.specs.Occurrence.{Occurrence, occurrences}
use Rattle.events.specs.Outline.{outline_of_document}
use Rattle.events.specs.Typing.{Typing}
use Rattle.walk.specs.ContextState.{DocumentScope, scope_of}
use Rattle.walk.specs.Entering.{everywhere}
use Rattle.walk.specs.RuleLaws.{none_all}
use Rattle.walk.specs.Names.{fragment_names, is_among}
use Rattle.rules_support.specs.Noting.{HasDistinctNames}
use Rattle.rules_operations.specs.UniqueOperationNames.{operation_name}
use Rattle.rules_operations.specs.UniqueVariableNames.{AreDistinctVariables, HasDistinctVariables}
use Rattle.rules_operations.specs.VariablesAreInputTypes.{HasInputType}
use Rattle.rules_arguments.specs.UniqueArgumentNames.{AreDistinctArguments, HasDistinctArguments}
use Rattle.rules_arguments.specs.UniqueInputFieldNames.{HasDistinctKeys, repeated_in_object}
use Rattle.rules_arguments.specs.UniqueInputFieldNamesLaws.{none_repeated}
use Rattle.rules_fragments.specs.KnownFragmentNames.{SpreadsKnown}
use Rattle.rules_fragments.specs.KnownTypeNames.{IsKnownCondition, NamesKnown}
use Rattle.rules_fragments.specs.UniqueFragmentNames.{fragment_name}
use Rattle.fragment_graph.specs.DocumentCycles.{HasNoCycle}
use Rattle.fragment_graph.proofs.Lists.{none_some, same_some, contains_at}
use Rattle.rules_first_stage.specs.CleanStage.{CleanDocument, IsKnownType, Occurs, arguments_of, condition_of, listed_arguments, names_in}
use Rattle.variable_values.specs.Inputs.{definitions_in, definitions_of, has_input_type}
use Rattle.rules_first_stage.proofs.Distinct.{distinct_within}
use Rattle.rules_first_stage.proofs.Values.{unique_arguments, whole-document}
use Rattle.rules_first_stage.proofs.Occurring.{defined, fragments_within, operation_occurs, operations_within, variable_occurs}

some_of : {X : Type 0} (o : Option X) → is_some o ≡ true → (x : X) × (o ≡ Some x)
some_of None e = absurd (true≢false (sym e))
some_of (Some x) e = (x, refl)

-- what each passes all pass
all_pass : {X : Type 0} (p : X → Bool) (xs : List X) → ((k : ℕ) (x : X) → slice_get xs k ≡ Some x → p x ≡ true) → list_all p xs ≡ true
all_pass p [] h = refl
all_pass p (x ∷ xs) h = and_from (p x) (list_all p xs) (h zero x refl) (all_pass p xs (λ k y e. h (suc k) y e))

module _ {S : Type 0} where
  distinct_variables : (written : Option (Placed (VariableDefinitions S))) → AreDistinctVariables written → are_distinct (names_in (definitions_in written)) ≡ true
  distinct_variables None e = refl
  distinct_variables (Some list) e = e

  distinct_arguments : (written : Option (Placed (Arguments S))) → AreDistinctArguments written → are_distinct (names_in (listed_arguments written)) ≡ true
  distinct_arguments None e = refl
  distinct_arguments (Some list) e = e

  distinct_at : (n : Node S) → HasDistinctArguments n → are_distinct (names_in (arguments_of n)) ≡ true
  distinct_at (node.field f) e = distinct_arguments f.item.arguments e
  distinct_at (node.directive d) e = distinct_arguments d.item.arguments e
  distinct_at _ e = refl

-- what is read of the rules that find nothing
pub record ReadOff {S C : Type 0} (scope : DocumentScope S C) (t : Typing S C) (doc : List (Definition S)) : Type 0 where
  pub no_fragment_cycles : HasNoCycle doc
  pub unique_operation_names : HasDistinctNames operation_name scope t doc
  pub unique_fragment_names : HasDistinctNames fragment_name scope t doc
  pub unique_variable_names : everywhere (λ known o. HasDistinctVariables o.node) scope t doc
  pub unique_argument_names : everywhere (λ known o. HasDistinctArguments o.node) scope t doc
  pub unique_input_field_names : everywhere (λ known o. HasDistinctKeys o.node) scope t doc
  pub known_fragment_names : everywhere (λ known o. SpreadsKnown known.known o.node) scope t doc
  pub known_type_names : everywhere (λ known o. NamesKnown known.schema o.node) scope t doc
  pub variables_are_input_types : everywhere (λ known o. HasInputType known.schema o.node) scope t doc

module _ {S C : Type 0} (schema : Catalog S C) where
  known_type : (name : List ℕ) → is_some (type_in name schema) ≡ true → IsKnownType schema name
  known_type name e = some_of (type_in name schema) e

  known_condition : (o : Option Name) (name : Name) → o ≡ Some name → IsKnownCondition schema o → IsKnownType schema name.item.now
  known_condition None name e h = absurd (none_some name e)
  known_condition (Some n) name e h = subst (λ (m : Name). IsKnownType schema m.item.now) (same_some n name e) (known_type n.item.now h)

  known_at : (n : Node S) (name : Name) → condition_of n ≡ Some name → NamesKnown schema n → IsKnownType schema name.item.now
  known_at (node.fragment_definition f) name e h = known_condition (Some f.item.type_condition) name e h
  known_at (node.inline_fragment i) name e h = known_condition i.item.type_condition name e h
  known_at _ name e h = absurd (none_some name e)

  -- a type that is known, and is an input type where it is known
  input_type : (v : VariableEntry S) → NamesKnown schema (node.variable_definition v) → HasInputType schema (node.variable_definition v) → has_input_type schema v ≡ true
  input_type v known input =
      let (m, e) = known_type (shape v.1.var_type.item).name known in
      ap (λ o. option_map_or is_input_meta o false) e ∙ sym (ap (λ o. option_map_or is_input_meta o true) e) ∙ input

  module _ (t : Typing S C) (doc : List (Definition S)) where
    -- what holds at each occurrence holds at a node that occurs
    at_node : (IsRight : Node S → Type 0) → ((o : Occurrence S C) → Contains (occurrences schema t doc) o → IsRight o.node) → (n : Node S) → Occurs schema t doc n → IsRight n
    at_node IsRight right n (o, c, e) = subst IsRight e (right o c)

    pub clean : ReadOff (scope_of schema doc) t doc → CleanDocument schema t doc
    clean h = record {
      no_cycle = h.no_fragment_cycles;
      operations = distinct_within (operations_within schema t doc) h.unique_operation_names;
      fragments = distinct_within (fragments_within schema t doc) h.unique_fragment_names;
      variables = λ o c. distinct_variables o.item.variable_definitions (at_node HasDistinctVariables h.unique_variable_names (node.operation_definition o) (operation_occurs schema t doc o c));
      arguments = λ n c. distinct_at n (at_node HasDistinctArguments h.unique_argument_names n c);
      keys = λ v c. at_node HasDistinctKeys h.unique_input_field_names (object_value v) c;
      values = λ n k a d.
          let (o, c, e) = k in
          let none = none_all (λ (p : Occurrence S C). repeated_in_object p.node) (occurrences schema t doc) (λ p there. (none_repeated (scope_of schema doc) p).1 (h.unique_input_field_names p there)) in
          unique_arguments schema (outline_of_document schema t doc) (whole-document schema t doc) none o c a (subst (λ m. Contains (arguments_of m) a) (sym e) d);
      spreads = λ s c. defined s.item.name.item.now doc (at_node (SpreadsKnown (fragment_names doc)) h.known_fragment_names (fragment_spread s) c);
      conditions = λ n c name e. known_at n name e (at_node (NamesKnown schema) h.known_type_names n c);
      variable_types = λ o c. all_pass (has_input_type schema) (definitions_of o.item) (λ k v e.
          let at = variable_occurs schema t doc o c v (contains_at (definitions_of o.item) k v e) in
          input_type v (at_node (NamesKnown schema) h.known_type_names (node.variable_definition v) at) (at_node (HasInputType schema) h.variables_are_input_types (node.variable_definition v) at));
    }
