-- The arguments of a field.
use Rattle.std.specs.Prelude.{List, []}
use Rattle.std.specs.Option.{option_map_or}
use Rattle.meta.specs.declared.arguments.Argument.{Argument}
use Rattle.meta.specs.declared.fields.Field.{Field}

-- none where no list is given
abbrev pub arguments_of : {S : Type 0} → Field S → List (Argument S)
arguments_of f = option_map_or (λ v. v.items) f.arguments []
