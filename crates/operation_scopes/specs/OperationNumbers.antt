-- The numbers of the names of operations.
use Rattle.std.specs.Prelude.{ℕ, List, Option, None, Some}
use Rattle.name_tables.specs.Maps.{value_of}
use Rattle.operation_scopes.specs.declared.operation_numbers.OperationNumbers.{OperationNumbers}

-- The number of a name, or of the operations without one.
abbrev pub number_at : OperationNumbers → Option (List ℕ) → Option ℕ
number_at n None = n.unnamed
number_at n (Some name) = value_of n.named name
