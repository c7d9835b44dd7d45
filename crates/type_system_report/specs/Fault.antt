-- What a fault says: values without references.
use Rattle.std.specs.Prelude.{ℕ, List, [], ◌∷◌, Bool, true, false, Vec, map}
use Rattle.std.specs.declared.alloc.Global.{Global}
use denote.Ref.{Bor}
use Rattle.language_types.specs.declared.types.BorrowedType.{BorrowedType}
use Rattle.language_types.specs.Types.{TypeShape, borrowed_shape}
use Rattle.type_system_report.specs.declared.fault.CoordinateOf.{CoordinateOf}
use Rattle.type_system_report.specs.declared.fault.CoordinateOf.TheVariants as c
use Rattle.type_system_report.specs.declared.fault.FaultKindOf.{FaultKindOf}
use Rattle.type_system_report.specs.declared.fault.FaultKindOf.TheVariants as k
use Rattle.type_system_report.specs.declared.fault.FaultOf.{FaultOf}

-- coordinates, kinds and faults by names and types as values
abbrev pub CoordinateValue : Type 0
CoordinateValue = CoordinateOf (List ℕ)

abbrev pub KindValue : Type 0
KindValue = FaultKindOf (List ℕ) TypeShape

abbrev pub FaultValue : Type 0
FaultValue = FaultOf (List ℕ) TypeShape

module _ {N M : Type 0} (name : N → M) where
  -- the coordinate with its names replaced
  abbrev pub coordinate_map : CoordinateOf N → CoordinateOf M
  coordinate_map (c.Type t) = c.Type (name t)
  coordinate_map (c.Field t f) = c.Field (name t) (name f)
  coordinate_map (c.Argument t f a) = c.Argument (name t) (name f) (name a)
  coordinate_map (c.EnumValue t v) = c.EnumValue (name t) (name v)
  coordinate_map (c.Directive d) = c.Directive (name d)
  coordinate_map (c.DirectiveArgument d a) = c.DirectiveArgument (name d) (name a)

  -- the kind with its names and types replaced
  abbrev pub kind_map : {T U : Type 0} → (T → U) → FaultKindOf N T → FaultKindOf M U
  kind_map of_type k.ReservedName = k.ReservedName
  kind_map of_type (k.SharedRoot a b) = k.SharedRoot a b
  kind_map of_type k.NoFields = k.NoFields
  kind_map of_type k.NoValues = k.NoValues
  kind_map of_type k.NoMembers = k.NoMembers
  kind_map of_type (k.NotOutputType t) = k.NotOutputType (of_type t)
  kind_map of_type (k.NotInterface n) = k.NotInterface (name n)
  kind_map of_type (k.RepeatedInterface n) = k.RepeatedInterface (name n)
  kind_map of_type k.OwnInterface = k.OwnInterface
  kind_map of_type (k.MissingAncestor n j) = k.MissingAncestor (name n) (name j)
  kind_map of_type (k.CircularInterface n) = k.CircularInterface (name n)
  kind_map of_type (k.MissingField w) = k.MissingField (coordinate_map w)
  kind_map of_type (k.WrongFieldType w t u) = k.WrongFieldType (coordinate_map w) (of_type t) (of_type u)
  kind_map of_type (k.MissingArgument w) = k.MissingArgument (coordinate_map w)
  kind_map of_type (k.WrongArgumentType w t u) = k.WrongArgumentType (coordinate_map w) (of_type t) (of_type u)
  kind_map of_type (k.AddedArgument w) = k.AddedArgument (coordinate_map w)
  kind_map of_type (k.RepeatedMember n) = k.RepeatedMember (name n)
  kind_map of_type k.ReservedValue = k.ReservedValue
  kind_map of_type k.NoLocations = k.NoLocations
  kind_map of_type k.DeprecatedArgument = k.DeprecatedArgument
  kind_map of_type k.DeprecatedInputField = k.DeprecatedInputField

-- what borrowed coordinates, kinds and faults stand for
abbrev pub coordinate_value : CoordinateOf (Bor (List ℕ)) → CoordinateValue
coordinate_value = coordinate_map (λ s. s.now)

abbrev pub kind_value : FaultKindOf (Bor (List ℕ)) BorrowedType → KindValue
kind_value = kind_map (λ s. s.now) borrowed_shape

abbrev pub fault_value : FaultOf (Bor (List ℕ)) BorrowedType → FaultValue
fault_value f = record { coordinate = coordinate_value f.coordinate; kind = kind_value f.kind }

-- the faults of a list
abbrev pub reported : Vec (FaultOf (Bor (List ℕ)) BorrowedType) Global → List FaultValue
reported v = map fault_value v.items

module _ {N : Type 0} where
  -- the last name of a coordinate
  abbrev pub last_name : CoordinateOf N → N
  last_name (c.Type n) = n
  last_name (c.Field t n) = n
  last_name (c.Argument t f n) = n
  last_name (c.EnumValue t n) = n
  last_name (c.Directive n) = n
  last_name (c.DirectiveArgument d n) = n

  -- what the last name is a member of; of a type or a directive, that itself
  abbrev pub holder_of : CoordinateOf N → CoordinateOf N
  holder_of (c.Type n) = c.Type n
  holder_of (c.Field t n) = c.Type t
  holder_of (c.Argument t f n) = c.Field t f
  holder_of (c.EnumValue t n) = c.Type t
  holder_of (c.Directive n) = c.Directive n
  holder_of (c.DirectiveArgument d n) = c.Directive d

-- a fault, if this is so
abbrev pub fault_if : Bool → CoordinateValue → KindValue → List FaultValue
fault_if true at kind = record { coordinate = at; kind = kind } ∷ []
fault_if false at kind = []
