use Rattle.std.proofs.Common.{◌≡◌, ℕ, List, take}
use Rattle.schema.specs.Possible.{is_among}
use Rattle.variable_values.specs.NameSet.{has_name}
use Rattle.variable_values.specs.Keys.{field_names}
use Rattle.variable_values.proofs.keys.names_of.Given as goal

abbrev pub invariant-loop-field : goal.invariant-loop-field
invariant-loop-field g l = (n : List ℕ) → has_name l.names n ≡ is_among (field_names (take l.field-index l.fields)) n
