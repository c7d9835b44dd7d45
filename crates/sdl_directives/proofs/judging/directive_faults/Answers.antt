use Rattle.std.proofs.Common.{◌≡◌, ◌↔◌, ◌∙◌, ◌++◌, List, [], ◌∷◌, ap, map, refl, sym}
use Rattle.std.specs.List.{flat_map}
use Rattle.sdl_directives.specs.declared.fault.PlacedDirectiveFault.{PlacedDirectiveFault}
use Rattle.sdl_directives.specs.Fault.{FaultValue, fault_values}
use Rattle.sdl_directives.specs.Judged.{document_faults, site_faults}
use Rattle.sdl_directives.specs.Right.{HasRightDirectives}
use Rattle.sdl_directives.specs.Sites.{definition_sites, site_value, site_values}
use Rattle.sdl_directives.specs.Known.{definitions_of}
use Rattle.sdl_directives.proofs.Earlier.{flat_mapped}
use Rattle.sdl_directives.proofs.Rightness.{iff_right}
use Rattle.sdl_directives.proofs.judging.directive_faults.Goals as goal

unmapped : (xs : List PlacedDirectiveFault) → fault_values xs ≡ [] → xs ≡ []
unmapped [] e = refl
unmapped (x ∷ xs) e = cc

-- the sites are those of the document, and the directives those that it may use
pub returns : goal.returns
returns c =
    let document = c.args.document.now in
    let standard = c.args.standard.now in
    let finds = site_faults (definitions_of c.as_slice.result.now) in
    let listed = c.as_slice-2.result.now in
    let found = c.report_sites.new.faults.items in
    let all : fault_values found ≡ document_faults document standard =
    c.in_ok-report_sites.ensures
    ∙ ap (λ z. fault_values z ++ flat_map (λ s. finds (site_value s)) listed) c.new-faults.ensures.items
    ∙ flat_mapped finds site_value listed
    ∙ ap (flat_map finds) (ap site_values c.as_slice-2.ensures.value ∙ c.in_ok-sites.ensures)
    ∙ ap (λ known. flat_map (site_faults known) (flat_map definition_sites document)) (ap definitions_of c.as_slice.ensures.value ∙ c.in_ok-known.ensures) in
    let iff = iff_right document standard in
    record { all = all; none = (λ e. iff.0 (sym all ∙ ap fault_values e), λ h. unmapped found (all ∙ iff.1 h)) }
