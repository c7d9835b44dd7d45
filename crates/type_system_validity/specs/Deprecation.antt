-- Which arguments and input fields are deprecated (sections 3.6, 3.10 and 3.13).
use Rattle.std.specs.Prelude.{◌≡◌, true, false}
use Rattle.std.specs.List.{All}
use Rattle.meta.specs.declared.arguments.Argument.{Argument}
use Rattle.meta.specs.declared.kinds.MetaTypeOf.{MetaTypeOf}
use Rattle.meta.specs.Arguments.{arguments_of}
use Rattle.meta.specs.Deprecation.{is_deprecated_status}
use Rattle.meta.specs.Kinds.{fields_of, input_fields_of}
use Rattle.type_system_interfaces.specs.Arguments.{is_required}

-- where it is deprecated it is not required
abbrev pub IsCurrentIfRequired : {S : Type 0} → Argument S → Type 0
IsCurrentIfRequired a = is_deprecated_status a.deprecation_status ≡ true → is_required a ≡ false

-- The same of each argument of a field and of each input field of a type.
pub record DeprecatesOptionalMembers {S C : Type 0} (t : MetaTypeOf S C) : Type 0 where
  pub arguments : All (λ f. All IsCurrentIfRequired (arguments_of f)) (fields_of t)
  pub input_fields : All IsCurrentIfRequired (input_fields_of t)
