-- What a fault prints.
use Rattle.std.specs.Prelude.{ℕ, List, ◌++◌, codes}
use Rattle.language.specs.declared.tree.OperationType.{OperationType}
use Rattle.language.specs.declared.tree.OperationType.TheVariants as o
use Rattle.language_types.specs.Types.{TypeShape, printed}
use Rattle.type_system_report.specs.declared.fault.CoordinateOf.TheVariants as c
use Rattle.type_system_report.specs.declared.fault.FaultKindOf.TheVariants as k
use Rattle.type_system_report.specs.Fault.{CoordinateValue, FaultValue, KindValue, holder_of, last_name}

-- the bytes of a coordinate
abbrev pub coordinate_text : CoordinateValue → List ℕ
coordinate_text (c.Type t) = t
coordinate_text (c.Field t f) = t ++ (codes "." ++ f)
coordinate_text (c.Argument t f a) = t ++ (codes "." ++ (f ++ (codes "(" ++ (a ++ codes ":)"))))
coordinate_text (c.EnumValue t v) = t ++ (codes "." ++ v)
coordinate_text (c.Directive d) = codes "@" ++ d
coordinate_text (c.DirectiveArgument d a) = codes "@" ++ (d ++ (codes "(" ++ (a ++ codes ":)")))

-- the name of a kind of operations
abbrev pub root_word : OperationType → List ℕ
root_word o.Query = codes "query"
root_word o.Mutation = codes "mutation"
root_word o.Subscription = codes "subscription"

-- this coordinate, which lacks a member of an interface
abbrev pub absent_text : CoordinateValue → List ℕ
absent_text at = codes " expected but " ++ (coordinate_text at ++ codes " does not provide it")

-- the member of an interface that is missing at this coordinate
abbrev pub missing_text : List ℕ → CoordinateValue → CoordinateValue → List ℕ
missing_text member w at = (member ++ coordinate_text w) ++ absent_text at

-- the type that a member of an interface has, and the type at this coordinate
abbrev pub expected_text : List ℕ → CoordinateValue → TypeShape → List ℕ
expected_text member w t = member ++ (coordinate_text w ++ (codes " expects type " ++ printed t))

abbrev pub given_text : CoordinateValue → TypeShape → List ℕ
given_text at t = codes " but " ++ (coordinate_text at ++ (codes " is type " ++ printed t))

-- the argument at this coordinate, which is required
abbrev pub required_text : CoordinateValue → List ℕ
required_text at = codes "Object field " ++ (coordinate_text (holder_of at) ++ (codes " includes required argument " ++ last_name at))

-- the interface of this name, which stands again
abbrev pub once_text : List ℕ → List ℕ
once_text n = codes " can only implement " ++ (n ++ codes " once")

-- the bytes of a fault of this kind at this coordinate
abbrev pub text_at : CoordinateValue → KindValue → List ℕ
text_at at k.ReservedName = codes "Name \"" ++ (last_name at ++ codes "\" must not begin with \"__\", which is reserved by introspection")
text_at at (k.SharedRoot a b) =
    (codes "All root types must be different: \"" ++ (coordinate_text at ++ codes "\""))
    ++ (codes " is the root of " ++ (root_word a ++ (codes " and " ++ root_word b)))
text_at at k.NoFields = codes "Type " ++ (coordinate_text at ++ codes " must define one or more fields")
text_at at k.NoValues = codes "Enum type " ++ (coordinate_text at ++ codes " must define one or more values")
text_at at k.NoMembers = codes "Union type " ++ (coordinate_text at ++ codes " must define one or more member types")
text_at at (k.NotOutputType t) = codes "The type of " ++ (coordinate_text at ++ (codes " must be an output type but got " ++ printed t))
text_at at (k.NotInterface n) =
    codes "Type " ++ (coordinate_text at ++ (codes " must only implement interface types, it cannot implement " ++ n))
text_at at (k.RepeatedInterface n) = (codes "Type " ++ coordinate_text at) ++ once_text n
text_at at k.OwnInterface =
    codes "Type " ++ (coordinate_text at ++ codes
    " cannot implement itself because it would create a circular reference")
text_at at (k.MissingAncestor n j) =
    (codes "Type " ++ (coordinate_text at ++ (codes " must implement " ++ n)))
    ++ (codes " because it is implemented by " ++ j)
text_at at (k.CircularInterface n) =
    (codes "Type " ++ (coordinate_text at ++ (codes " cannot implement " ++ n)))
    ++ codes " because it would create a circular reference"
text_at at (k.MissingField w) = missing_text (codes "Interface field ") w at
text_at at (k.WrongFieldType w t u) = expected_text (codes "Interface field ") w t ++ given_text at u
text_at at (k.MissingArgument w) = missing_text (codes "Interface field argument ") w at
text_at at (k.WrongArgumentType w t u) = expected_text (codes "Interface field argument ") w t ++ given_text at u
text_at at (k.AddedArgument w) = required_text at ++ (codes " that is missing from the Interface field " ++ coordinate_text w)
text_at at (k.RepeatedMember n) = (codes "Union type " ++ coordinate_text at) ++ (codes " can only include type " ++ (n ++ codes " once"))
text_at at k.ReservedValue = codes "Enum type " ++ (coordinate_text (holder_of at) ++ (codes " cannot include value: " ++ last_name at))
text_at at k.NoLocations = codes "Directive " ++ (coordinate_text at ++ codes " must include one or more locations")
text_at at k.DeprecatedArgument = codes "Required argument " ++ (coordinate_text at ++ codes " cannot be deprecated")
text_at at k.DeprecatedInputField = codes "Required input field " ++ (coordinate_text at ++ codes " cannot be deprecated")

-- the bytes of a fault
abbrev pub fault_text : FaultValue → List ℕ
fault_text f = text_at f.coordinate f.kind
