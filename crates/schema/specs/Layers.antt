-- The test for subtypes, by modifiers; both lists are read from the outside.
use Rattle.std.specs.Prelude.{List, [], ◌∷◌, Bool, false}
use Rattle.language_types.specs.declared.types.TypeModifier.{TypeModifier}
use Rattle.language_types.specs.declared.types.TypeModifier.TheVariants as m

-- whether the types are, if their names are or not
abbrev pub are_layers_below : Bool → List TypeModifier → List TypeModifier → Bool
are_layers_below below [] [] = below
are_layers_below below [] (n ∷ ns) = false
are_layers_below below (m.NonNull ∷ ms) [] = are_layers_below below ms []
are_layers_below below (m.NonNull ∷ ms) (m.NonNull ∷ ns) = are_layers_below below ms ns
are_layers_below below (m.NonNull ∷ ms) (m.List j ∷ ns) = are_layers_below below ms (m.List j ∷ ns)
are_layers_below below (m.List i ∷ ms) [] = false
are_layers_below below (m.List i ∷ ms) (m.NonNull ∷ ns) = false
are_layers_below below (m.List i ∷ ms) (m.List j ∷ ns) = are_layers_below below ms ns
