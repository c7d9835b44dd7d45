-- The places that are kept are what belongs to the names.
use Rattle.std.proofs.Common.{◌≡◌, ◌∙◌, [], ℕ, List, Option, None, Some, ap, refl}
use mathlib.Core.Path.{fun_ext}
use Rattle.name_tables.specs.Maps.{entries_of, index_of, value_at, value_of}
use Rattle.rules_support.specs.declared.first_places.FirstPlaces.{FirstPlaces}
use Rattle.rules_support.specs.Noting.{nothing_noted}
use Rattle.rules_support.specs.FirstPlaces.{places_of}

pub place_is : (f : FirstPlaces) (name : List ℕ) → places_of f name ≡ value_of f.places name
unfolding places_of
place_is f name = refl

-- where no name is there, none was noted
pub none_noted : (f : FirstPlaces) → ((name : List ℕ) → index_of f.places name ≡ None) → places_of f ≡ nothing_noted
none_noted f none = fun_ext (λ name. place_is f name ∙ ap (value_at (entries_of f.places)) (none name))

at_none : {T : Type 0} (o : Option ℕ) → value_at {T = T} [] o ≡ None
at_none None = refl
at_none (Some k) = refl

pub empty_noted : (f : FirstPlaces) → entries_of f.places ≡ [] → places_of f ≡ nothing_noted
empty_noted f e = fun_ext (λ name. place_is f name ∙ ap (λ es. value_at es (index_of f.places name)) e ∙ at_none (index_of f.places name))
