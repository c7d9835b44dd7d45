-- The input fields that an object lacks (section 5.6.4).
use Rattle.std.specs.Prelude.{ℕ, List, [], ◌∷◌, ◌++◌, Option, Some, None, is_some, Bool, not, ◌&&◌, fold, string_bytes}
use Rattle.std.specs.Prelude.{if◌then◌else◌}
pub use Rattle.language_types.specs.Types.{is_never_null}
use Rattle.language_types.specs.Types.{shape}
use Rattle.meta.specs.declared.arguments.Argument.{Argument}
use Rattle.schema.specs.Possible.{is_among}
use Rattle.literals.specs.Texts.{missing_text}

module _ {S : Type 0} where
  -- of a type that is never null, without a default value
  abbrev pub is_required : Argument S → Bool
  is_required a = is_never_null (shape a.arg_type) && not (is_some a.default_value)

  -- it is required, no key, and not noted yet
  abbrev pub is_lacking : List (List ℕ) → List (List ℕ) → Argument S → Bool
  is_lacking keys names a = is_required a && (not (is_among keys (string_bytes a.name)) && not (is_among names (string_bytes a.name)))

  -- one field more
  abbrev pub noted : List (List ℕ) → List (List ℕ) → Argument S → List (List ℕ)
  noted keys names a = if is_lacking keys names a then names ++ string_bytes a.name ∷ [] else names

  -- the names of the required fields that are no key, each once, in their order
  abbrev pub missing : List (List ℕ) → List (Argument S) → List (List ℕ)
  missing keys fields = fold (noted keys) [] fields

-- the fault of an object of a type that lacks these
abbrev pub missing_fault : List ℕ → List (List ℕ) → Option (List ℕ)
missing_fault type_name [] = None
missing_fault type_name (n ∷ ns) = Some (missing_text type_name (n ∷ ns))
