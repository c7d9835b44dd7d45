-- Later keys of an object value (section 5.6.3).
use Rattle.std.specs.Prelude.{◌≡◌, ℕ, List, [], ◌++◌, true, map, string_bytes, codes}
use Rattle.language_values.specs.ValuesEqual.{are_distinct}
use Rattle.walk.specs.ContextState.{DocumentScope}
use Rattle.walk.specs.ErrorValue.{ErrorValue}
use Rattle.events.specs.Node.{Node, object_value}
use Rattle.events.specs.Occurrence.{Occurrence}
use Rattle.rules_support.specs.Names.{key_name}
use Rattle.rules_support.specs.Repeats.{repeats}

abbrev pub repeated_key_message : List ℕ → List ℕ
repeated_key_message name = (codes "There can only be one input field named \"" ++ name) ++ codes "\""

-- at a node: an object value
abbrev pub repeated_in_object : {S : Type 0} → Node S → List ErrorValue
repeated_in_object (object_value v) = repeats repeated_key_message (map key_name v.item)
repeated_in_object _ = []

-- at an object value: each key that stands earlier in it
abbrev pub repeated_keys : {S C : Type 0} → DocumentScope S C → Occurrence S C → List ErrorValue
repeated_keys scope o = repeated_in_object o.node

-- at a node: no two keys of an object are the same
abbrev pub HasDistinctKeys : {S : Type 0} → Node S → Type 0
HasDistinctKeys (object_value v) = are_distinct (map (λ e. string_bytes e.0.item) v.item) ≡ true
HasDistinctKeys _ = Unit {0}
