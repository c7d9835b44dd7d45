-- What is told of a circle, and its text.
use Rattle.std.specs.Prelude.{ℕ, List, ◌∷◌, ◌++◌, Vec, codes, map}
use Rattle.std.specs.declared.alloc.Global.{Global}
use Rattle.std.specs.List.{flat_map}
use Rattle.type_system_inputs.specs.declared.circles.InputCircle.{InputCircle}
use Rattle.type_system_inputs.specs.declared.circles.RequiredField.{RequiredField}
use Rattle.type_system_inputs.specs.Inputs.{FieldName}

-- what a field stands for
abbrev pub field_name : RequiredField → FieldName
field_name f = record { of = f.of.now; name = f.name.now }

-- the fields of a circle
abbrev pub circle_fields : InputCircle → List FieldName
circle_fields c = field_name c.first ∷ map field_name c.others.items

-- the circles of a list
abbrev pub circles_told : Vec InputCircle Global → List (List FieldName)
circles_told v = map circle_fields v.items

-- the bytes of the fields after the first
abbrev pub others_text : List RequiredField → List ℕ
others_text fs = flat_map (λ f. codes "." ++ f.name.now) fs

-- the bytes of a circle
abbrev pub circle_text : InputCircle → List ℕ
circle_text c =
    (codes "Cannot reference Input Object " ++ c.first.of.now)
    ++ ((codes " within itself through a series of non-null fields: \"" ++ c.first.name.now) ++ (others_text c.others.items ++ codes "\""))
