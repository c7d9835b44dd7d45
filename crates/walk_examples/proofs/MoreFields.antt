-- One field more is kept.
use Rattle.std.proofs.Common.{◌≡◌, ◌∙◌, [], ◌∷◌, ◌++◌, map, ap}
use Rattle.std.proofs.lemmas.List.{map-append}
use Rattle.walk_examples.specs.declared.kept_fields.KeptFields.{KeptFields}
use Rattle.walk_examples.specs.KeptFields.{fields_kept}

pub more_fields : {S : Type 0} (a b : KeptFields S) (f : _) → b.fields.items ≡ a.fields.items ++ f ∷ [] → fields_kept b ≡ fields_kept a ++ f.now ∷ []
more_fields a b f e = ap (map (λ g. g.now)) e ∙ map-append (λ g. g.now) a.fields.items (f ∷ [])
