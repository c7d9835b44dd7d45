use Rattle.std.proofs.Common.{◌≡◌, ◌↔◌, ◌∙◌, ◌++◌, List, [], ◌∷◌, ap, map, refl, subst}
use Rattle.std.specs.List.{flat_map}
use Rattle.sdl_directives.specs.Known.{definitions_of}
use Rattle.language_values.specs.ValuesPrinted.{printed_value}
use Rattle.sdl_directives.specs.Sites.{definition_sites, site_value, site_values}
use Rattle.sdl_directives.proofs.Earlier.{flat_mapped}
use Rattle.sdl_scalars.specs.Checks.{MayAnswer}
use Rattle.sdl_scalars.specs.OneAnswer.{one_answer}
use Rattle.sdl_scalars.specs.SourceScalar.{source_str, source_text}
use Rattle.sdl_directive_values.specs.declared.fault.ValueFault.{ValueFault}
use Rattle.sdl_directive_values.specs.Faults.{AreFaults, reported}
use Rattle.sdl_directive_values.specs.Given.{document_values, given_value, given_values, site_given}
use Rattle.sdl_directive_values.proofs.Conforms.{iff_conforming}
use Rattle.sdl_directive_values.proofs.all.directive_value_faults.Goals as goal

unmapped : (xs : List ValueFault) → reported xs ≡ [] → xs ≡ []
unmapped [] e = refl
unmapped (x ∷ xs) e = cc

-- the values are those of the document
pub returns : goal.returns
returns c =
    let document = c.args.document.now in
    let standard = c.args.standard.now in
    let schema = c.args.schema.now in
    let finds = site_given (definitions_of c.as_slice.result.now) in
    let listed = c.as_slice-2.result.now in
    let given =
    ap (map given_value) c.as_slice-3.ensures.value
    ∙ c.in_ok-add_sites.ensures
    ∙ ap (λ z. given_values z ++ flat_map (λ s. finds (site_value s)) listed) c.new-given.ensures.items
    ∙ flat_mapped finds site_value listed
    ∙ ap (flat_map finds) (ap site_values c.as_slice-2.ensures.value ∙ c.in_ok-sites.ensures)
    ∙ ap (λ known. flat_map (site_given known) (flat_map definition_sites document)) (ap definitions_of c.as_slice.ensures.value ∙ c.in_ok-known.ensures) in
    let shown = printed_value source_text source_str in
    let found = c.in_ok-faults.faults.items in
    let are = subst (λ zs. AreFaults schema MayAnswer shown zs (reported found)) given c.in_ok-faults.ensures in
    let iff = iff_conforming schema MayAnswer shown one_answer (document_values document standard) (reported found) are in
    record { all = are; none = (λ e. iff.0 (ap reported e), λ h. unmapped found (iff.1 h)) }
