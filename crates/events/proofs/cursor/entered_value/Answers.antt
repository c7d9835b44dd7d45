use Rattle.std.proofs.Common.{sym, ap}
use Rattle.events.specs.Place.{node_of_level, entered}
use Rattle.events.proofs.Levels.{null_level, scalar_level, enum_level, variable_level, list_level, object_level}
use Rattle.events.proofs.cursor.entered_value.Goals as goal

pub returns-in-Null : goal.returns-in-Null
returns-in-Null g c = λ t. ap (λ l. entered (node_of_level l c.args.value.now.span) t) (sym (null_level _ c.in-Null.is))

pub returns-in-Scalar : goal.returns-in-Scalar
returns-in-Scalar g c = λ t. ap (λ l. entered (node_of_level l c.args.value.now.span) t) (sym (scalar_level _ _ c.in-Scalar.is))

pub returns-in-Enum : goal.returns-in-Enum
returns-in-Enum g c = λ t. ap (λ l. entered (node_of_level l c.args.value.now.span) t) (sym (enum_level _ _ c.in-Enum.is))

pub returns-in-Variable : goal.returns-in-Variable
returns-in-Variable g c = λ t. ap (λ l. entered (node_of_level l c.args.value.now.span) t) (sym (variable_level _ _ c.in-Variable.is))

pub returns-in-List : goal.returns-in-List
returns-in-List g c = λ t. ap (λ l. entered (node_of_level l c.args.value.now.span) t) (sym (list_level _ _ c.in-List.is))

pub returns-in-Object : goal.returns-in-Object
returns-in-Object g c = λ t. ap (λ l. entered (node_of_level l c.args.value.now.span) t) (sym (object_level _ _ c.in-Object.is))
