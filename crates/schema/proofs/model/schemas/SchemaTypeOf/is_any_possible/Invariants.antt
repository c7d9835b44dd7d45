use Rattle.std.proofs.Common.{◌≡◌, drop, map, string_bytes}
use Rattle.schema.specs.Possible.{do_meet, possible_names}
use Rattle.schema.proofs.model.schemas.SchemaTypeOf.is_any_possible.Given as goal

abbrev pub invariant-loop-name : goal.invariant-loop-name
invariant-loop-name g l =
    do_meet (map string_bytes l.names) (possible_names l.self.types l.meta) ≡ do_meet (map string_bytes (drop l.name-index l.names)) (possible_names l.self.types l.meta)
