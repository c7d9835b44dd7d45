use Rattle.std.proofs.Common.{sym, refl}
use Rattle.events.specs.Outline.{each, outline_of_value, outline_of_object_field}
use Rattle.events.specs.EventValue.{typing_of}
use Rattle.events.specs.Place.{inside_level}
use Rattle.events.proofs.Pushed.{pushed_of, pushed_none}
use Rattle.events.proofs.Levels.{null_level, scalar_level, enum_level, variable_level, list_level, object_level}
use Rattle.events.proofs.cursor.push_inside_value.Goals as goal

pub returns-in-Null : goal.returns-in-Null
returns-in-Null g c =
    pushed_none (λ schema. inside_level schema (typing_of c.args.types.now)) c.args.frames.now (null_level _ c.in-Null.is) (λ schema. refl)

pub returns-in-Scalar : goal.returns-in-Scalar
returns-in-Scalar g c =
    pushed_none (λ schema. inside_level schema (typing_of c.args.types.now)) c.args.frames.now (scalar_level _ _ c.in-Scalar.is)
    (λ schema. refl)

pub returns-in-Enum : goal.returns-in-Enum
returns-in-Enum g c =
    pushed_none (λ schema. inside_level schema (typing_of c.args.types.now)) c.args.frames.now (enum_level _ _ c.in-Enum.is)
    (λ schema. refl)

pub returns-in-Variable : goal.returns-in-Variable
returns-in-Variable g c =
    pushed_none (λ schema. inside_level schema (typing_of c.args.types.now)) c.args.frames.now (variable_level _ _ c.in-Variable.is)
    (λ schema. refl)

pub returns-in-List : goal.returns-in-List
returns-in-List g c =
    let types = typing_of c.args.types.now in
    let xs = c.in-List.items.items in
    pushed_of c.push_items.result (λ schema. inside_level schema types) c.args.frames.now c.push_items.new.frames
    (list_level _ _ c.in-List.is)
    (pushed_of c.push_items.result (λ schema u. each (outline_of_value schema u) xs) c.args.frames.now c.push_items.new.frames
    (sym c.at_items.ensures)
    (pushed_of c.push_items.result (λ schema. each (outline_of_value schema
    (typing_of c.at_items.result))) c.args.frames.now c.push_items.new.frames
    (sym c.as_slice.ensures.value) c.push_items.ensures))

pub returns-in-Object : goal.returns-in-Object
returns-in-Object g c =
    let types = typing_of c.args.types.now in
    pushed_of c.push_entries.result (λ schema. inside_level schema types) c.args.frames.now c.push_entries.new.frames
    (object_level _ _ c.in-Object.is)
    (pushed_of c.push_entries.result (λ schema. each (outline_of_object_field schema types)) c.args.frames.now c.push_entries.new.frames
    (sym c.as_slice-in-Object.ensures.value) c.push_entries.ensures)
