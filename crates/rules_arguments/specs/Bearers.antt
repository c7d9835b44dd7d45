-- Whose arguments they are.
use Rattle.std.specs.Prelude.{ℕ, List, [], Option, option_and_then}
use Rattle.std.specs.Option.{unwrap_or}
use Rattle.meta.specs.declared.kinds.MetaTypeOf.{MetaTypeOf}
use Rattle.meta.specs.Kinds.{name_of_meta}

-- the name of a type, where it is known
abbrev pub name_of_known : {S C : Type 0} → Option (MetaTypeOf S C) → List ℕ
name_of_known t = unwrap_or (option_and_then name_of_meta t) []
