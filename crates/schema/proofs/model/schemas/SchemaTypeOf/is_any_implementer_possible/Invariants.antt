use Rattle.std.proofs.Common.{◌≡◌}
use Rattle.schema.specs.Possible.{do_meet, implementer_names, possible_names}
use Rattle.schema.proofs.model.schemas.SchemaTypeOf.is_any_implementer_possible.Given as goal

abbrev pub invariant-loop-listed : goal.invariant-loop-listed
invariant-loop-listed g l =
    do_meet (implementer_names l.interface l.self.types) (possible_names l.self.types l.meta) ≡ do_meet (implementer_names l.interface l.listed-iterator) (possible_names l.self.types l.meta)
