use Rattle.std.proofs.Common.{◌≡◌, true, false, is_some, ap, sym}
use Rattle.schema.specs.Catalog.{type_in}
use Rattle.meta.specs.Kinds.{name_of_meta}
use Rattle.schema.proofs.AcceptedLemmas.{find-called}
use Rattle.schema.proofs.model.schemas.SchemaTypeOf.plain_type.Goals as goal

pub unreachable-requires : goal.unreachable-requires
unreachable-requires g c =
    let s = c.args.self.now in
    let some : is_some (type_in c.args.name.now s) ≡ true = find-called name_of_meta s.types c.args.name.now c.requires in
    let none : is_some (type_in c.args.name.now s) ≡ false = ap is_some (sym c.in-None.ensures) in
    cc
