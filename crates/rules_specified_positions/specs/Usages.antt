-- Whether a variable may stand where it is used, as IsVariableUsageAllowed and AreTypesCompatible have it (section
-- 5.8.5).
use Rattle.std.specs.Prelude.{◌≡◌, ◌⊎◌, List, [], ◌∷◌, Bool, true, false, not, ◌&&◌, ◌||◌, if◌then◌else◌}
use Rattle.std.specs.Option.{option_map_or}
use Rattle.language_types.specs.Types.{TypeShape, inner_of, is_never_null, printed, shape}
use Rattle.language.specs.declared.tree.VariableDefinition.{VariableDefinition}
use Rattle.language_values.specs.declared.value.InputValue.{InputValue, out-InputValue}
use Rattle.language_values.specs.declared.value.InputValue.TheOpen as opened
use Rattle.meta.specs.declared.kinds.MetaTypeOf.{MetaTypeOf}
use Rattle.schema.specs.Subtype.{IsSubtype}
use Rattle.events.specs.Node.{VariableEntry}
use Rattle.walk.specs.ErrorValue.{ErrorValue}
use Rattle.rules_positions.specs.VariablesInAllowedPosition.{position_message}
use Rattle.rules_specified_uses.specs.InputPlaces.{PlaceValue}
use Rattle.rules_specified_uses.specs.ValueUses.{UseValue}

abbrev pub null_layer : {S A : Type 0} → opened.InputValue-F S A → Bool
null_layer opened.Null = true
null_layer (opened.Scalar s) = false
null_layer (opened.Enum e) = false
null_layer (opened.Variable v) = false
null_layer (opened.List vs) = false
null_layer (opened.Object es) = false

module _ {S : Type 0} where
  abbrev pub is_null : InputValue S → Bool
  is_null v = null_layer (out-InputValue S v)

  -- a variable has a default value, and it is not `null`
  abbrev pub has_usable_default : VariableDefinition S → Bool
  has_usable_default d = option_map_or (λ v. not (is_null v.item)) d.default_value false

  -- the error at a use of a variable that may not stand there
  abbrev pub usage_error : VariableEntry S → UseValue → ErrorValue
  usage_error d u =
      record {
        locations = d.0.span.start ∷ u.place ∷ [];
        message = position_message u.variable (printed (shape d.1.var_type.item)) (printed u.at.expected);
      }

-- The type that a variable's type has to fit at a place. Where a default value stands for `null`, a variable that may
-- be null has to fit the type without its outer non-null.
abbrev pub type_to_fit : Bool → TypeShape → TypeShape → TypeShape
type_to_fit has_default variable place =
    if has_default && (is_never_null place && not (is_never_null variable)) then inner_of place else place

module _ {S C : Type 0} (types : List (MetaTypeOf S C)) where
  -- a type fits another: it is below it by its lists and non-nulls, and the name is the same
  abbrev pub Fits : TypeShape → TypeShape → Type 0
  Fits variable place = (variable.name ≡ place.name) × IsSubtype types variable place

  -- a variable may stand at a place: its type fits, by the default values of both
  abbrev pub IsAllowed : VariableDefinition S → PlaceValue → Type 0
  IsAllowed d at = let t = shape d.var_type.item in Fits t (type_to_fit (has_usable_default d || at.has_default) t at.expected)

  -- an error if the variable may not stand there, and no error otherwise
  abbrev pub Judged : VariableEntry S → UseValue → List ErrorValue → Type 0
  Judged d u es = (IsAllowed d.1 u.at × (es ≡ [])) ⊎ (¬ (IsAllowed d.1 u.at) × (es ≡ usage_error d u ∷ []))
