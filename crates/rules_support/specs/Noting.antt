-- A rule that notes names where they are met, and reports those that it met before.
use Rattle.std.specs.Prelude.{◌≡◌, ℕ, List, [], ◌∷◌, Option, None, Some, true, map, if◌then◌else◌}
use Rattle.std.specs.List.{flat_map}
use Rattle.std.specs.Str.{bytes_eq}
use Rattle.language_values.specs.ValuesEqual.{are_distinct}
use Rattle.walk.specs.ErrorValue.{ErrorValue}
use Rattle.events.specs.Node.{Node}
use Rattle.events.specs.Occurrence.{Occurrence, occurrences}
use Rattle.walk.specs.Step.{StepOf}
use Rattle.walk.specs.Rule.{Collection, Condition}
use Rattle.walk.specs.Entering.{keeping_step}
pub use Rattle.std.specs.Option.{option_to_list as to_list}
pub use Rattle.name_tables.specs.Adding.{or_else}
use Rattle.rules_support.specs.Names.{Named, Places}
use Rattle.rules_support.specs.Repeats.{repeat_at, repeats}

abbrev pub nothing_noted : Places
nothing_noted name = None

-- a name that is new gets its place
abbrev pub noted : Places → Named → Places
noted places n name = or_else (places name) (if bytes_eq n.0 name then Some n.1 else None)

abbrev pub noted_if : Option Named → Places → Places
noted_if None places = places
noted_if (Some n) places = noted places n

-- a name that was noted is there again
abbrev pub repeat_if : (List ℕ → List ℕ) → Option Named → Places → List ErrorValue
repeat_if message None places = []
repeat_if message (Some n) places = repeat_at message (places n.0) n

module _ {S C : Type 0} where
  -- the step: names that are met where nodes are entered
  abbrev pub noting_step : {V : Type 0} → (V → Places) → (List ℕ → List ℕ) → (Node S → Option Named) → StepOf S C V
  noting_step places message name =
      keeping_step places (λ scope o. noted_if (name o.node)) (λ scope o. repeat_if message (name o.node))

  -- the names at the nodes of a document, in their order
  abbrev pub names_at : (Node S → Option Named) → List (Occurrence S C) → List Named
  names_at name os = flat_map (λ (o : Occurrence S C). to_list (name o.node)) os

  -- what is reported of a document: of the names at its nodes each that stands earlier
  abbrev pub repeated : (List ℕ → List ℕ) → (Node S → Option Named) → Collection S C
  repeated message name scope t doc = repeats message (names_at name (occurrences scope.schema t doc))

  -- no two of the names at the nodes of a document are the same
  abbrev pub HasDistinctNames : (Node S → Option Named) → Condition S C
  HasDistinctNames name scope t doc = are_distinct (map (λ n. n.0) (names_at name (occurrences scope.schema t doc))) ≡ true

abbrev pub NothingNoted : {V : Type 0} → (V → Places) → V → Type 0
NothingNoted places a = places a ≡ nothing_noted
