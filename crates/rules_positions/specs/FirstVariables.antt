-- First definitions of variables, as they are kept.
use Rattle.std.specs.Prelude.{◌≡◌, ℕ, List, Option}
use Rattle.std.specs.BTreeMap.{get_by}
use Rattle.std.specs.Cmp.Lexicographic.{slice_cmp}
use Rattle.std.specs.Option.{option_copied, option_or}
use Rattle.std.specs.Ordering.{nat_cmp}
use Rattle.events.specs.Node.{VariableEntry}
use Rattle.rules_positions.specs.DefinedVariables.{first_of}
use Rattle.rules_positions.specs.declared.first_variables.FirstVariables.{FirstVariables}

module _ {S : Type 0} where
  abbrev pub kept_first : FirstVariables S → List ℕ → Option (VariableEntry S)
  kept_first f variable = option_copied (get_by (λ k. slice_cmp nat_cmp variable k.now) f.entries)

  -- of these the first of each variable is kept
  abbrev pub KeepsFirst : List (VariableEntry S) → FirstVariables S → Type 0
  KeepsFirst entries f = (variable : List ℕ) → kept_first f variable ≡ first_of entries variable

  -- of these as well, where none was kept before
  abbrev pub Notes : List (VariableEntry S) → FirstVariables S → FirstVariables S → Type 0
  Notes entries old new = (variable : List ℕ) → kept_first new variable ≡ option_or (kept_first old variable) (first_of entries variable)
