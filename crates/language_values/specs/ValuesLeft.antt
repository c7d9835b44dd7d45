-- What is left of lists and objects that are gone through, with a list of those that wait.
use Rattle.std.specs.Prelude.{◌≡◌, ℕ, ◌+◌, ◌*◌, List, [], ◌++◌, map, reverse, codes, Bool, true, false, Option, Some}
use Rattle.std.specs.Prelude.{None, string_bytes}
use Rattle.std.specs.Fmt.{IsPlainFormatter, HasWritten}
use Rattle.std.specs.declared.fmt.Formatter.{Formatter}
use Rattle.std.specs.List.{flat_map, sum_by}
use Rattle.std.specs.declared.alloc.Global.{Global}
use Rattle.language_values.specs.Values.{variables_of_all, variables_of_object}
use Rattle.language_values.specs.ValuesInside.{values_inside}
use Rattle.language_values.specs.ValuesPrinted.{comma_separated, printed_value, printed_entry}
use Rattle.language_values.specs.declared.value.Rest.{Rest}
use Rattle.language_values.specs.declared.value.Rest.TheVariants.{Items, Entries}

-- the variables of what is left
abbrev pub variables_left : {S : Type 0} → Rest S → List (List ℕ)
variables_left (Items vs) = variables_of_all vs.now
variables_left (Entries es) = variables_of_object es.now

-- those of what waits, the last one first
abbrev pub variables_waiting : {S : Type 0} → List (Rest S) → List (List ℕ)
variables_waiting ws = flat_map variables_left (reverse ws)

-- how many values are left, at any depth
abbrev pub values_left : {S : Type 0} → Rest S → ℕ
values_left (Items vs) = sum_by (λ v. values_inside v.item) vs.now
values_left (Entries es) = sum_by (λ e. values_inside e.1.item) es.now

-- twice the values that wait, and once those that hold them
abbrev pub values_waiting : {S : Type 0} → List (Rest S) → ℕ
values_waiting ws = sum_by (λ w. 1 + 2 * values_left w) ws

-- some text is written, and what is left after it makes the whole
abbrev pub WritesPart : {W : Type 0} → (W → List ℕ → W → Type 0) → Formatter W → Formatter W → List ℕ → List ℕ → Type 0
WritesPart took f g left whole = IsPlainFormatter f → (bs : List ℕ) × HasWritten took f bs g × (bs ++ left ≡ whole)

-- pieces between brackets, where they are the first there or others stand before them
abbrev pub separated : Bool → List (List ℕ) → List ℕ
separated true ps = comma_separated ps
separated false ps = flat_map (λ p. codes ", " ++ p) ps

module _ {S : Type 0} (text : S → List ℕ) (str_of : S → Option (List ℕ)) where
  -- the bytes of what is left, with the bracket after it
  abbrev pub printed_left : Bool → Rest S → List ℕ
  printed_left is_first (Items vs) = separated is_first (map (λ v. printed_value text str_of v.item) vs.now) ++ codes "]"
  printed_left is_first (Entries es) =
      separated is_first (map (λ e. printed_entry text str_of (string_bytes e.0.item) e.1.item) es.now) ++ codes "}"

  -- those of what waits, the last one first
  abbrev pub printed_waiting : List (Rest S) → List ℕ
  printed_waiting ws = flat_map (printed_left false) (reverse ws)

  -- those of what comes next and of what waits; where nothing comes next nothing is left
  abbrev pub printed_next : Option (Bool × Rest S) → List (Rest S) → List ℕ
  printed_next None ws = []
  printed_next (Some p) ws = printed_left p.0 p.1 ++ printed_waiting ws

  -- those of what is inside a list or an object whose bracket is printed; nothing after any other value
  abbrev pub printed_opened : Option (Global × Rest S) → List ℕ
  printed_opened None = []
  printed_opened (Some p) = printed_left true p.1
