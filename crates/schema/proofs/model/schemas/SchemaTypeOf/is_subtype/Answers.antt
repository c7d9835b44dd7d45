use Rattle.std.proofs.Common.{◌≡◌}
use Rattle.language_types.specs.Types.{borrowed_shape}
use Rattle.schema.proofs.SubtypeLemmas.{passes, passes-at, subtype-decides, subtype-refl, subtype-trans}
use Rattle.schema.proofs.model.schemas.SchemaTypeOf.is_subtype.Goals as goal

pub returns : goal.returns
returns g c =
    let s = c.args.self.now in
    let sub = borrowed_shape c.args.sub_type in
    let super = borrowed_shape c.args.super_type in
    let r = c.are_modifiers_below.result in
    let test : r ≡ passes s.types sub super = passes-at s.types sub super r c.is_named_subtype-are_names_below.result _ _ _ _ c.innermost_name.ensures c.innermost_name-2.ensures c.modifiers.ensures c.modifiers-2.ensures c.is_named_subtype-are_names_below.ensures c.are_modifiers_below.ensures in
    record {
      subtype = subtype-decides s.types sub super r test;
      reflexive = subtype-refl s.types sub super r test;
      transitive = subtype-trans s.types sub super r test s.roots s.accepted;
    }
