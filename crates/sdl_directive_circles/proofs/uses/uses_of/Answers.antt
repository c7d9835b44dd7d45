use Rattle.std.proofs.Common.{◌≡◌, ◌++◌, ap, ◌∙◌}
use Rattle.std.specs.List.{flat_map}
use Rattle.std.proofs.lemmas.List.{append-nil}
use Rattle.sdl_directives.proofs.Earlier.{flat_mapped}
use Rattle.sdl_directives.specs.Sites.{definition_sites, site_value, site_values}
use Rattle.sdl_directive_circles.specs.Uses.{directives_used, name_values, type_used}
use Rattle.sdl_directive_circles.proofs.uses.uses_of.Goals as goal

pub returns : goal.returns
returns c =
    let x = c.args.definition.now in
    let listed = c.as_slice.result.now in
    let sites : name_values c.add_sites.new.uses.items ≡ flat_map directives_used (definition_sites x) =
    c.in_ok-add_sites.ensures
    ∙ ap (λ z. name_values z ++ flat_map (λ s. directives_used (site_value s)) listed) c.new-uses.ensures.items
    ∙ flat_mapped directives_used site_value listed
    ∙ ap (flat_map directives_used)
    (ap site_values c.as_slice.ensures.value ∙ c.in_ok-sites.ensures ∙ ap (flat_map definition_sites)
    c.from_ref.ensures.value ∙ append-nil (definition_sites x)) in
    c.in_ok-add_types.ensures ∙ (λ i. sites i ++ flat_map type_used (c.input_values.ensures i))
