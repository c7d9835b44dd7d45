-- What a handle holds may go to another thread, and another handle may share its schema. One `search` for all of it does
-- not end, so each kind of types has its own.
use denote.Param.Send.{IsSend, IsSync, recorded_send, recorded_sync, sendable, struct_send, struct_sync, view_send, view_sync}
use denote.Struct.Declared as declared
use denote.Struct.Declared.{Declared}
use denote.Struct.Struct.{Struct}
use Rattle.std.proofs.Crossing.{crosses}
use Rattle.language_values.proofs.value.InputValue.TheLaws.TheKnot as knot
use Rattle.sdl_scalars.specs.contracts.scalar.SourceScalar.{the_row as S}
use Rattle.sdl_scalars.specs.contracts.check.SourceCheck.{the_row as C}
use Rattle.meta.specs.contracts.kinds.MetaTypeOf as MetaType
use Rattle.meta.specs.contracts.scalars.ScalarMetaOf as ScalarMeta
use Rattle.meta.specs.contracts.fields.Field as Field
use Rattle.meta.specs.contracts.objects.ObjectMeta as ObjectMeta
use Rattle.meta.specs.contracts.enums.EnumMetaOf as EnumMeta
use Rattle.meta.specs.contracts.interfaces.InterfaceMeta as InterfaceMeta
use Rattle.meta.specs.contracts.inputs.InputObjectMetaOf as InputMeta
use Rattle.meta.specs.contracts.unions.UnionMeta as UnionMeta
use Rattle.meta.specs.contracts.wrappers.ListMeta as ListMeta
use Rattle.meta.specs.contracts.wrappers.NullableMeta as NullableMeta
use Rattle.meta.specs.contracts.wrappers.PlaceholderMeta as PlaceholderMeta
use Rattle.schema.specs.contracts.model.schemas.SchemaTypeOf as Schema
use Rattle.schema_validation.specs.contracts.directives.DirectiveType as Directive
use Rattle.schema.specs.contracts.model.schemas.SchemaTypeOf.TheInside as Inside
use Rattle.schema_handle.specs.contracts.slot.Held as Held

scalar_send : IsSend (ScalarMeta.the_field C).row
scalar_send = search (crosses, knot.crosses, sendable) depth 60 fits 20000

object_send : IsSend (ObjectMeta.the_field S).row
object_send = search (crosses, knot.crosses, sendable) depth 60 fits 20000

enum_send : IsSend (EnumMeta.the_field C).row
enum_send = search (crosses, knot.crosses, sendable) depth 60 fits 20000

interface_send : IsSend (InterfaceMeta.the_field S).row
interface_send = search (crosses, knot.crosses, sendable) depth 60 fits 20000

union_send : IsSend UnionMeta.the_field.row
union_send = search (crosses, knot.crosses, sendable) depth 60 fits 20000

input_send : IsSend (InputMeta.the_field S C).row
input_send = search (crosses, knot.crosses, sendable) depth 60 fits 20000

list_send : IsSend ListMeta.the_field.row
list_send = search (crosses, knot.crosses, sendable) depth 60 fits 20000

nullable_send : IsSend NullableMeta.the_field.row
nullable_send = search (crosses, knot.crosses, sendable) depth 60 fits 20000

placeholder_send : IsSend PlaceholderMeta.the_field.row
placeholder_send = search (crosses, knot.crosses, sendable) depth 60 fits 20000

meta_type_send : IsSend (MetaType.the_field S C).row
meta_type_send = search (scalar_send, object_send, enum_send, interface_send, union_send, input_send, list_send, nullable_send, placeholder_send, sendable) depth 30 fits 20000

scalar_sync : IsSync (ScalarMeta.the_field C).row
scalar_sync = search (crosses, knot.crosses_both, sendable) depth 60 fits 20000

field_sync : IsSync (Field.the_field S).row
field_sync = search (crosses, knot.crosses_both, sendable) depth 60 fits 20000

object_sync : IsSync (ObjectMeta.the_field S).row
object_sync = search (field_sync, crosses, knot.crosses_both, sendable) depth 60 fits 20000

enum_sync : IsSync (EnumMeta.the_field C).row
enum_sync = search (crosses, knot.crosses_both, sendable) depth 60 fits 20000

interface_sync : IsSync (InterfaceMeta.the_field S).row
interface_sync = search (field_sync, crosses, knot.crosses_both, sendable) depth 60 fits 20000

union_sync : IsSync UnionMeta.the_field.row
union_sync = search (crosses, knot.crosses_both, sendable) depth 60 fits 20000

input_sync : IsSync (InputMeta.the_field S C).row
input_sync = search (crosses, knot.crosses_both, sendable) depth 60 fits 20000

list_sync : IsSync ListMeta.the_field.row
list_sync = search (crosses, knot.crosses_both, sendable) depth 60 fits 20000

nullable_sync : IsSync NullableMeta.the_field.row
nullable_sync = search (crosses, knot.crosses_both, sendable) depth 60 fits 20000

placeholder_sync : IsSync PlaceholderMeta.the_field.row
placeholder_sync = search (crosses, knot.crosses_both, sendable) depth 60 fits 20000

meta_type_sync : IsSync (MetaType.the_field S C).row
meta_type_sync = search (scalar_sync, object_sync, enum_sync, interface_sync, union_sync, input_sync, list_sync, nullable_sync, placeholder_sync, sendable) depth 30 fits 20000

directive_send : IsSend (Directive.the_field S).row
directive_send = search (crosses, knot.crosses, sendable) depth 60 fits 20000

-- the fields of a schema, in their order
fields_send : IsSend (declared.row (Inside.the_type S C))
fields_send =
    let T : Declared = Inside.the_type S C in
    recorded_send (Struct (declared.shape T)) T.D T.to T.to_one (struct_send (declared.shape T) (
      search (crosses, knot.crosses, sendable) depth 60 fits 20000,
      (
        search (meta_type_send, crosses, knot.crosses, sendable) depth 60 fits 20000,
        (
          search (crosses, knot.crosses, sendable) depth 60 fits 20000,
          (
            search (crosses, knot.crosses, sendable) depth 60 fits 20000,
            (
              search (crosses, knot.crosses, sendable) depth 60 fits 20000,
              (
                search (crosses, knot.crosses, sendable) depth 60 fits 20000,
                (
                  search (directive_send, crosses, knot.crosses, sendable) depth 60 fits 20000,
                  (
                    search (crosses, knot.crosses, sendable) depth 60 fits 20000,
                    tt,
                  ),
                ),
              ),
            ),
          ),
        ),
      ),
    ))

schema_send : IsSend (Schema.the_field S C).row
schema_send = view_send _ _ _ _ _ fields_send

directive_sync : IsSync (Directive.the_field S).row
directive_sync = search (crosses, knot.crosses_both, sendable) depth 60 fits 20000

-- the fields of a schema, in their order
fields_sync : IsSync (declared.row (Inside.the_type S C))
fields_sync =
    let T : Declared = Inside.the_type S C in
    recorded_sync (Struct (declared.shape T)) T.D T.to T.to_one (struct_sync (declared.shape T) (
      search (crosses, knot.crosses_both, sendable) depth 60 fits 20000,
      (
        search (meta_type_sync, crosses, knot.crosses_both, sendable) depth 60 fits 20000,
        (
          search (crosses, knot.crosses_both, sendable) depth 60 fits 20000,
          (
            search (crosses, knot.crosses_both, sendable) depth 60 fits 20000,
            (
              search (crosses, knot.crosses_both, sendable) depth 60 fits 20000,
              (
                search (crosses, knot.crosses_both, sendable) depth 60 fits 20000,
                (
                  search (directive_sync, crosses, knot.crosses_both, sendable) depth 60 fits 20000,
                  (
                    search (crosses, knot.crosses_both, sendable) depth 60 fits 20000,
                    tt,
                  ),
                ),
              ),
            ),
          ),
        ),
      ),
    ))

schema_sync : IsSync (Schema.the_field S C).row
schema_sync = view_sync _ _ _ _ _ fields_sync

pub held_send : IsSend Held.the_row
held_send = search (schema_send, schema_sync, crosses, sendable) depth 60 fits 20000
