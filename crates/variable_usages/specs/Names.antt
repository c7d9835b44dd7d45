-- Names of variables.
use Rattle.std.specs.Prelude.{◌≡◌, ℕ, List, [], Bool, true, map, if◌then◌else◌}
use Rattle.std.specs.BTreeSet.{BTreeSet, contains_by}
use Rattle.std.specs.Cmp.Lexicographic.{slice_cmp}
use Rattle.std.specs.Option.{option_map_or}
use Rattle.std.specs.Ordering.{nat_cmp}
use Rattle.std.specs.Str.{bytes_eq}
use denote.Ref.{Bor}
use Rattle.language_types.specs.declared.position.Span.{Span}
use Rattle.language_types.specs.declared.position.Spanning.{Spanning}
use Rattle.language.specs.declared.tree.Operation.{Operation}
use Rattle.language.specs.declared.tree.VariableDefinition.{VariableDefinition}
pub use Rattle.language_types.specs.Names.{is_among}
use Rattle.variable_usages.specs.declared.uses.VariableUse.{VariableUse}

abbrev pub has_name : BTreeSet (Bor (List ℕ)) → List ℕ → Bool
has_name names name = contains_by (λ k. slice_cmp nat_cmp name k.now) names

-- The set has these names and no others.
abbrev pub HasNames : BTreeSet (Bor (List ℕ)) → List (List ℕ) → Type 0
HasNames set names = (name : List ℕ) → has_name set name ≡ is_among names name

-- The name of a use was added to the set.
pub record AddsUse (u : VariableUse) (old new : BTreeSet (Bor (List ℕ))) : Type 0 where
  pub adds : (other : List ℕ) → has_name new other ≡ (if bytes_eq u.name.now other then true else has_name old other)

-- The name of a variable or a fragment, and its span.
abbrev pub NameAndSpan : Type 0
NameAndSpan = List ℕ × Span

module _ {S : Type 0} where
  -- The variables of an operation with their definitions, if there is a list.
  abbrev pub variable_list : Spanning (Operation S) Span → List (Spanning (Bor (List ℕ)) Span × VariableDefinition S)
  variable_list o = option_map_or (λ d. d.item.items.items) o.item.variable_definitions []

  -- The variables that an operation defines, in order, with repeats.
  abbrev pub defined_variables : Spanning (Operation S) Span → List NameAndSpan
  defined_variables o = map (λ v. (v.0.item.now, v.0.span)) (variable_list o)

  -- Their names.
  abbrev pub defined_names : Spanning (Operation S) Span → List (List ℕ)
  defined_names o = map (λ v. v.0.item.now) (variable_list o)
