use Rattle.std.proofs.Common.{◌≡◌, ◌↔◌, ◌||◌, IsTrue, ap, subst, ◌∙◌}
use Rattle.language_types.specs.Types.{borrowed_shape, shape}
use Rattle.rules_specified_positions.specs.Usages.{Fits, has_usable_default, type_to_fit}
use Rattle.rules_specified_positions.proofs.judging.is_allowed.Goals as goal

pub returns : goal.returns
returns g c =
    let types = c.args.schema.now.types in
    let d = c.args.definition.now in
    let t = shape d.var_type.item in
    let wanted = borrowed_shape c.args.found.now.expected in
    let fit : borrowed_shape c.type_to_fit-place.result ≡ type_to_fit (has_usable_default d || c.args.found.now.has_default) t wanted =
    c.type_to_fit-place.ensures
    ∙ ap (λ b. type_to_fit b (borrowed_shape c.as_borrowed-variable.result) wanted) c.has_default-nullable.ensures
    ∙ ap (λ v. type_to_fit (has_usable_default d || c.args.found.now.has_default) v wanted) c.as_borrowed-variable.ensures
    in
    subst (λ p. IsTrue c.fits.result ↔ Fits types t p) fit
    (subst (λ v. IsTrue c.fits.result ↔ Fits types v (borrowed_shape c.type_to_fit-place.result)) c.as_borrowed-variable.ensures c.fits.ensures)
