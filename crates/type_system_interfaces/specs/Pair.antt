-- A field of a type beside the field of an interface that it stands for.
use Rattle.std.specs.Prelude.{ℕ, List, string_bytes}
use Rattle.meta.specs.declared.fields.Field.{Field}
use Rattle.type_system_report.specs.declared.fault.CoordinateOf.TheVariants as c
use Rattle.type_system_interfaces.specs.declared.pair.FieldPair.{FieldPair}
use Rattle.type_system_report.specs.Fault.{CoordinateValue}

-- The field `given` of the type `of`, and the field `wanted` of the interface.
pub record PairValue (S : Type 0) : Type 0 where
  pub of : List ℕ
  pub given : Field S
  pub interface : List ℕ
  pub wanted : Field S

abbrev pub pair_value : {S : Type 0} → FieldPair S → PairValue S
pair_value p = record { of = p.of.now; given = p.given.now; interface = p.interface.now; wanted = p.wanted.now }

module _ {S : Type 0} (p : PairValue S) where
  -- the coordinates of the type's field, and of an argument of it
  abbrev pub given_field : CoordinateValue
  given_field = c.Field p.of (string_bytes p.given.name)

  abbrev pub given_argument : List ℕ → CoordinateValue
  given_argument a = c.Argument p.of (string_bytes p.given.name) a

  -- the coordinates of the interface's field, and of an argument of it
  abbrev pub wanted_field : CoordinateValue
  wanted_field = c.Field p.interface (string_bytes p.wanted.name)

  abbrev pub wanted_argument : List ℕ → CoordinateValue
  wanted_argument a = c.Argument p.interface (string_bytes p.wanted.name) a
