-- The type conditions of fragments, as they are kept.
use Rattle.std.specs.Prelude.{ℕ, List, Option, None, Some, option_and_then, slice_get}
use Rattle.std.specs.Option.{option_copied}
use denote.Ref.{Bor}
use Rattle.meta.specs.declared.kinds.MetaTypeOf.{MetaTypeOf}
use Rattle.fragment_graph.specs.declared.numbers.Numbers.{Numbers}
use Rattle.fragment_graph.specs.Numbers.{number_of}
use Rattle.rules_fragments.specs.declared.conditions.Conditions.{Conditions}
use Rattle.rules_fragments.specs.PossibleFragmentSpreads.{TypesByName, no_conditions}

-- what is kept at a number, if there is one
abbrev pub kept_at : {X : Type 0} → List (Option X) → Option ℕ → Option X
kept_at xs number = option_and_then (λ k. option_and_then (λ o. o) (slice_get xs k)) number

-- those of names, where they are kept at the numbers of the names
abbrev pub conditions_at : {S C : Type 0} → Numbers → List (Option (Bor (MetaTypeOf S C))) → TypesByName S C
conditions_at n types name = option_copied (kept_at types (number_of n name))

abbrev pub conditions_by : {S C : Type 0} → Option Numbers → List (Option (Bor (MetaTypeOf S C))) → TypesByName S C
conditions_by None types = no_conditions
conditions_by (Some n) types = conditions_at n types

abbrev pub conditions_of : {S C : Type 0} → Conditions S C → TypesByName S C
conditions_of c = conditions_by c.numbers c.types.items
