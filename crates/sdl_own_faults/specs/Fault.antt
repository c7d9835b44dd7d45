-- Faults with their places, as values without references.
use denote.Ref.{Bor}
use Rattle.std.specs.Prelude.{ℕ, List, [], ◌∷◌, Bool, true, false, Vec, map}
use Rattle.std.specs.declared.alloc.Global.{Global}
use Rattle.language_types.specs.declared.position.SourcePosition.{SourcePosition}
use Rattle.language_types.specs.Position.{Placed}
use Rattle.type_system_report.specs.Fault.{CoordinateValue, FaultValue, KindValue, fault_value}
use Rattle.sdl_own_faults.specs.declared.fault.OwnFault.{OwnFault}

-- a name of the text
abbrev pub Written : Type 0
Written = Placed (Bor (List ℕ))

-- a fault, and the position of the name at its coordinate
pub record PlacedFault : Type 0 where
  pub position : SourcePosition
  pub fault : FaultValue

abbrev pub placed_value : OwnFault → PlacedFault
placed_value f = record { position = f.position; fault = fault_value f.fault }

-- the faults of a list
abbrev pub reported : Vec OwnFault Global → List PlacedFault
reported v = map placed_value v.items

-- a fault at a name
abbrev pub fault_at : Written → CoordinateValue → KindValue → PlacedFault
fault_at w at kind = record { position = w.span.start; fault = record { coordinate = at; kind = kind } }

-- the same, if this is so
abbrev pub fault_if : Bool → Written → CoordinateValue → KindValue → List PlacedFault
fault_if true w at kind = fault_at w at kind ∷ []
fault_if false w at kind = []
