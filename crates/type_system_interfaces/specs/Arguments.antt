-- Look-ups of arguments (section 3.6.1).
use Rattle.std.specs.Prelude.{ℕ, List, Bool, ◌&&◌, Option, find, is_some, not, string_bytes}
use Rattle.std.specs.Str.{bytes_eq}
use Rattle.language_types.specs.Types.{is_never_null, shape}
use Rattle.meta.specs.declared.arguments.Argument.{Argument}
use Rattle.meta.specs.declared.fields.Field.{Field}
use Rattle.meta.specs.Arguments.{arguments_of}

module _ {S : Type 0} where
  -- the first argument of the name
  abbrev pub argument_named : List ℕ → Field S → Option (Argument S)
  argument_named name f = find (λ a. bytes_eq (string_bytes a.name) name) (arguments_of f)

  -- non-null, with no default value
  abbrev pub is_required : Argument S → Bool
  is_required a = is_never_null (shape a.arg_type) && not (is_some a.default_value)
