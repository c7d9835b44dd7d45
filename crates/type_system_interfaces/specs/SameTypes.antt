-- Types that are the same, whatever sizes of lists are expected.
use Rattle.std.specs.Prelude.{List, [], ◌∷◌, Bool, true, false, ◌&&◌, reverse}
use Rattle.std.specs.Str.{bytes_eq}
use Rattle.language_types.specs.declared.types.TypeModifier.{TypeModifier}
use Rattle.language_types.specs.declared.types.TypeModifier.TheVariants as m
use Rattle.language_types.specs.Types.{TypeShape}

-- the same modifiers, read from the outside
abbrev pub are_layers_same : List TypeModifier → List TypeModifier → Bool
are_layers_same [] [] = true
are_layers_same [] (n ∷ ns) = false
are_layers_same (m.NonNull ∷ ms) [] = false
are_layers_same (m.NonNull ∷ ms) (m.NonNull ∷ ns) = are_layers_same ms ns
are_layers_same (m.NonNull ∷ ms) (m.List j ∷ ns) = false
are_layers_same (m.List i ∷ ms) [] = false
are_layers_same (m.List i ∷ ms) (m.NonNull ∷ ns) = false
are_layers_same (m.List i ∷ ms) (m.List j ∷ ns) = are_layers_same ms ns

-- one name with the same modifiers
abbrev pub is_same_type : TypeShape → TypeShape → Bool
is_same_type t u = bytes_eq t.name u.name && are_layers_same (reverse t.modifiers) (reverse u.modifiers)
