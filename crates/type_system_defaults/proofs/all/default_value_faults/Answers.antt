use Rattle.std.proofs.Common.{◌++◌, map, ap, ◌∙◌, subst}
use Rattle.std.specs.List.{flat_map}
use Rattle.std.proofs.lemmas.Result.{IfOk-weaker}
use Rattle.language_types.specs.References.{list_copied}
use Rattle.language_values.specs.ValuesPrinted.{printed_value}
use Rattle.type_system_defaults.specs.Faults.{AreFaults, reported}
use Rattle.type_system_defaults.specs.Given.{directive_defaults, given_value, type_defaults}
use Rattle.type_system_defaults.proofs.Conforms.{none_iff_conforming}
use Rattle.type_system_defaults.proofs.all.default_value_faults.Goals as goal

pub returns-clause-none : goal.returns-clause-none
returns-clause-none g c =
    let schema = c.args.schema.now in
    let may = g.S.CheckedScalar.may_answer in
    let shown = printed_value g.S.ScalarValue.text g.S.ScalarValue.str_of in
    let of_directives = flat_map directive_defaults (list_copied c.as_slice-2.result.now) in
    let types = ap list_copied c.as_slice.ensures.value ∙ c.in_ok-types.ensures in
    let given =
    ap (map given_value) c.as_slice-3.ensures.value
    ∙ c.in_ok-add_directives.ensures
    ∙ ap (λ z. z ++ of_directives) (c.in_ok-add_types.ensures ∙ ap (λ z. map given_value z ++ flat_map type_defaults (list_copied c.as_slice.result.now)) c.new-given.ensures.items)
    ∙ ap (λ z. flat_map type_defaults z ++ of_directives) types
    ∙ ap (λ z. flat_map type_defaults schema.types ++ flat_map directive_defaults (list_copied z)) c.as_slice-2.ensures.value in
    IfOk-weaker c.faults_of.result _ _
    (λ v p. none_iff_conforming schema may shown g.met.S.CheckedScalar.one_answer (list_copied c.in_ok-directives.directives.items) (reported v) c.in_ok-directives.ensures.permutation
    (subst (λ zs. AreFaults schema may shown zs (reported v)) given p))
    c.faults_of.ensures
