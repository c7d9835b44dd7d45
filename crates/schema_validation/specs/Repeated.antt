-- A name that occurs again further on.
use Rattle.std.specs.Prelude.{ℕ, List, Option, Some, None, if◌then◌else◌}
use Rattle.meta.specs.declared.kinds.MetaTypeOf.{MetaTypeOf}
use Rattle.schema_validation.specs.Accepted.{is_listed}
use Rattle.meta.specs.Kinds.{name_of_meta}

module _ {S C : Type 0} where
  abbrev pub listed_again : List (MetaTypeOf S C) → Option (List ℕ) → Option (List ℕ)
  listed_again ts None = None
  listed_again ts (Some n) = if is_listed ts n then Some n else None

  -- the name of the type, where a type of the list has it too
  abbrev pub repeated_name : MetaTypeOf S C → List (MetaTypeOf S C) → Option (List ℕ)
  repeated_name t ts = listed_again ts (name_of_meta t)
