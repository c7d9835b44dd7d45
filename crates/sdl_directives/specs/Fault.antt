-- What is wrong with directives of a type system document, as values without references.
use denote.Ref.{Bor}
use Rattle.std.specs.Prelude.{ℕ, List, [], ◌∷◌, Bool, true, false, map}
use Rattle.language_types.specs.declared.position.SourcePosition.{SourcePosition}
use Rattle.language_types.specs.declared.types.BorrowedType.{BorrowedType}
use Rattle.language_types.specs.Types.{TypeShape, borrowed_shape}
use Rattle.sdl_directives.specs.declared.fault.DirectiveFaultOf.{DirectiveFaultOf}
use Rattle.sdl_directives.specs.declared.fault.DirectiveFaultOf.TheVariants as k
use Rattle.sdl_directives.specs.declared.fault.PlacedDirectiveFault.{PlacedDirectiveFault}

abbrev pub KindValue : Type 0
KindValue = DirectiveFaultOf (List ℕ) TypeShape

-- what is wrong, and where
pub record FaultValue : Type 0 where
  pub position : SourcePosition
  pub fault : KindValue

abbrev pub kind_value : DirectiveFaultOf (Bor (List ℕ)) BorrowedType → KindValue
kind_value (k.Unknown n) = k.Unknown n.now
kind_value (k.Misplaced n l) = k.Misplaced n.now l
kind_value (k.Repeated n) = k.Repeated n.now
kind_value (k.UnknownArgument a n) = k.UnknownArgument a.now n.now
kind_value (k.RepeatedArgument a) = k.RepeatedArgument a.now
kind_value (k.MissingArgument n a t) = k.MissingArgument n.now a.now (borrowed_shape t)

abbrev pub fault_value : PlacedDirectiveFault → FaultValue
fault_value f = record { position = f.position; fault = kind_value f.fault }

abbrev pub fault_values : List PlacedDirectiveFault → List FaultValue
fault_values = map fault_value

-- a fault, if this is so
abbrev pub fault_if : Bool → SourcePosition → KindValue → List FaultValue
fault_if true position kind = record { position = position; fault = kind } ∷ []
fault_if false position kind = []
