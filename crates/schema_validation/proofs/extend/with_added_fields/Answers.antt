use Rattle.schema_validation.proofs.ExtendLemmas.{object_removed, replaced}
use Rattle.schema_validation.proofs.extend.with_added_fields.Goals as goal

pub returns-clause-extended : goal.returns-clause-extended
returns-clause-extended g c =
    replaced c.args.query.now c.as_slice.result.now c.args.types.items c.remove.new.self.items c.insert.new.self.items c.object_index-at.result c.in-Object.object c.in_ok-extended-in-Object.extended c.as_slice.ensures.value c.object_index-at.ensures.within c.object_index-at.ensures.object c.in-Object.ensures.value c.in-Object.ensures.items c.in_ok-insert-in-Object.ensures.items c.in_ok-extended-in-Object.ensures.added

pub unreachable-requires : goal.unreachable-requires
unreachable-requires g c =
    object_removed c.args.query.now c.as_slice.result.now c.args.types.items c.object_index-at.result c.remove.result c.as_slice.ensures.value c.object_index-at.ensures.object c.remove.ensures.value c.in_default.not-Object
