-- What is left of a set while its measures are added up.
use Rattle.std.specs.Prelude.{ℕ, ◌+◌, List, [], ◌∷◌, map}
use Rattle.std.specs.List.{sum_by}
use Rattle.std.specs.Option.{option_map_or, unwrap_or}
use Rattle.std.specs.Prelude.{slice_get}
use Rattle.language.specs.SelectionsInside.{all_inside}
use Rattle.fragment_graph.specs.declared.numbers.Numbers.{Numbers}
use Rattle.fragment_graph.specs.Numbers.{number_of}
use Rattle.measures.specs.declared.measure.Measures.{Measures}
use Rattle.measures.specs.declared.walk.Part.{Part}
use Rattle.measures.specs.Measure.{nothing, all_together}
use Rattle.measures.specs.Levels.{at_level}
use Rattle.measures.specs.Written.{set_measures}

-- what the table has for a name, at its number
abbrev pub noted : Numbers → List Measures → List ℕ → Measures
noted n table name = option_map_or (λ k. unwrap_or (slice_get table k) nothing) (number_of n name) nothing

-- what a set that waits adds
abbrev pub part_measures : {S : Type 0} → (List ℕ → Measures) → Part S → Measures
part_measures fragment p = at_level p.level (set_measures fragment p.set.now)

abbrev pub waiting_measures : {S : Type 0} → (List ℕ → Measures) → List (Part S) → Measures
waiting_measures fragment ps = all_together (map (part_measures fragment) ps)

-- how many selections are in those sets, at any depth
abbrev pub waiting_inside : {S : Type 0} → List (Part S) → ℕ
waiting_inside ps = sum_by (λ p. all_inside p.set.now) ps
