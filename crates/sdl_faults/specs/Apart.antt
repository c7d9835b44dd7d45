-- Faults of what is left of a text that makes no schema, where no reason for that touches it (section 3).
use Rattle.std.specs.Prelude.{◌≡◌, ◌++◌, ◌&&◌, ℕ, List, [], ◌∷◌, Bool, true, false, filter, map, not}
use Rattle.std.specs.List.{flat_map, list_any}
use Rattle.std.specs.List.Sorted.{IsNonDecreasingBy, IsPermutation}
use Rattle.graphql_reader.specs.declared.type_system.TypeSystemDefinition.{TypeSystemDefinition}
use Rattle.schema_validation.specs.declared.directives.DirectiveType.{DirectiveType}
use Rattle.sdl_mending.specs.declared.mended.Mended.{Mended}
use Rattle.sdl_mending.specs.Touched.{has_type}
use Rattle.sdl_scalars.specs.declared.scalar.SourceScalar.{SourceScalar}
use Rattle.type_system.specs.All.{all_faults, directive_faults}
use Rattle.type_system_report.specs.declared.fault.CoordinateOf.TheVariants as c
use Rattle.type_system_report.specs.declared.fault.FaultKindOf.TheVariants as k
use Rattle.type_system_report.specs.Fault.{CoordinateValue, FaultValue, KindValue}
use Rattle.sdl_faults.specs.declared.located.LocatedFault.{LocatedFault}
use Rattle.sdl_faults.specs.Schema.{AreCircles, AreDefaults, AreDirectives}
use Rattle.sdl_faults.specs.Text.{AreGivenFaults, AreOwnFaults, ArePlainFaults}
use Rattle.sdl_faults.specs.Told.{ToldFault, place_index, told_fault, told_values}

-- the type that has a coordinate, unless it is one of a directive
abbrev pub type_at : CoordinateValue → List (List ℕ)
type_at (c.Type t) = t ∷ []
type_at (c.Field t f) = t ∷ []
type_at (c.Argument t f a) = t ∷ []
type_at (c.EnumValue t v) = t ∷ []
type_at (c.Directive d) = []
type_at (c.DirectiveArgument d a) = []

-- a fault of this kind hangs on several definitions: on roots, or on what other types are or have
abbrev pub is_comparison : KindValue → Bool
is_comparison (k.SharedRoot a b) = true
is_comparison (k.NotOutputType t) = true
is_comparison (k.NotInterface n) = true
is_comparison (k.MissingAncestor n j) = true
is_comparison (k.CircularInterface n) = true
is_comparison (k.MissingField w) = true
is_comparison (k.WrongFieldType w t u) = true
is_comparison (k.MissingArgument w) = true
is_comparison (k.WrongArgumentType w t u) = true
is_comparison (k.AddedArgument w) = true
is_comparison _ = false

-- the other types that it names
abbrev pub named_in : KindValue → List (List ℕ)
named_in (k.NotOutputType t) = t.name ∷ []
named_in (k.NotInterface n) = n ∷ []
named_in (k.MissingAncestor n j) = n ∷ j ∷ []
named_in (k.CircularInterface n) = n ∷ []
named_in (k.MissingField w) = type_at w
named_in (k.WrongFieldType w t u) = type_at w ++ t.name ∷ u.name ∷ []
named_in (k.MissingArgument w) = type_at w
named_in (k.WrongArgumentType w t u) = type_at w ++ t.name ∷ u.name ∷ []
named_in (k.AddedArgument w) = type_at w
named_in _ = []

-- A fault that hangs on several definitions is apart from these types if it names none of them.
abbrev pub is_apart : (List ℕ → Bool) → FaultValue → Bool
is_apart touched f = is_comparison f.kind && not (list_any touched (type_at f.coordinate)) && not (list_any touched (named_in f.kind))

module _ (mended : Mended) where
  -- what is told of what is left: of the faults of the roots, the types and the directives that are apart from what is
  -- touched
  pub record AreCompared (told : List ToldFault) : Type 0 where
    pub directives : List (DirectiveType SourceScalar)
    pub are_directives : AreDirectives mended.schema directives
    pub told_is : told ≡ map (told_fault mended.document.items)
        (filter (is_apart (has_type mended.touched)) (all_faults mended.schema ++ flat_map directive_faults directives))

  -- and of circles, default values and values of directives' arguments, which name nothing that is touched: no such type
  -- has a field there or refuses a value
  pub record AreApartFaults (standard : List TypeSystemDefinition) (told : List ToldFault) : Type 0 where
    pub compared : List ToldFault
    pub circles : List ToldFault
    pub defaults : List ToldFault
    pub given : List ToldFault
    pub are_compared : AreCompared compared
    pub are_circles : AreCircles mended.document.items mended.schema circles
    pub are_defaults : AreDefaults mended.document.items mended.schema defaults
    pub are_given : AreGivenFaults mended.document.items standard mended.schema given
    pub all : told ≡ ((compared ++ circles) ++ defaults) ++ given

-- those, with the faults of the text itself for which no schema is needed, in the order of the text
pub record TellsRest (document standard : List TypeSystemDefinition) (mended : Mended) (told : List LocatedFault) : Type 0 where
  pub own : List ToldFault
  pub of_directives : List ToldFault
  pub apart : List ToldFault
  pub are_own : AreOwnFaults document own
  pub are_of_directives : ArePlainFaults document standard of_directives
  pub are_apart : AreApartFaults mended standard apart
  pub all : IsPermutation ((own ++ of_directives) ++ apart) (told_values told)
  pub in_order : IsNonDecreasingBy place_index told
