use Rattle.std.proofs.Common.{◌≡◌, ◌<◌, Some, ap, arith, length, sym, ◌∙◌, option_copied, slice_set}
use Rattle.schema.specs.Catalog.{type_in}
use Rattle.fragment_graph.specs.Numbers.{number_of, defined_number}
use Rattle.fragment_graph.proofs.Numbering.{below}
use Rattle.rules_fragments.specs.Conditions.{conditions_at, kept_at}
use Rattle.rules_fragments.specs.PossibleFragmentSpreads.{with_definition, with_type}
use Rattle.rules_fragments.proofs.ConditionsSeen.{inserted, kept_now}
use Rattle.rules_fragments.proofs.conditions.note_type.Goals as goal

pub index_mut-requires : goal.index_mut-requires
index_mut-requires g c =
    let n = c.args.numbers.now in
    let name = c.in-Fragment.fragment.item.name.item.now in
    let at : number_of n name ≡ Some c.in-Some-number.number = sym (c.requires.number ∙ ap (defined_number n) c.in-Fragment.is) ∙ c.in-Some-number.is in
    let inside = below n c.requires.numbered name c.in-Some-number.number at in
    let sized = c.requires.sized in
    let long = c.args.types.now.ok.0 in
    omega (arith, inside, sized, long)

pub returns-in-Some-number-clause-noted : goal.returns-in-Some-number-clause-noted
returns-in-Some-number-clause-noted g c =
    let n = c.args.numbers.now in
    let schema = c.args.schema.now in
    let types = c.args.types.now.items in
    let known = conditions_at n types in
    let fragment = c.in-Fragment.fragment.item in
    let name = fragment.name.item.now in
    let k = c.in-Some-number.number in
    let at : number_of n name ≡ Some k = sym (c.requires.number ∙ ap (defined_number n) c.in-Fragment.is) ∙ c.in-Some-number.is in
    let inside = below n c.requires.numbered name k at in
    let sized = c.requires.sized in
    let low : k < length types = omega (arith, inside, sized) in
    let found : Some c.in-Some.t.now ≡ type_in fragment.type_condition.item.now schema = sym (ap option_copied c.in-Some.is) ∙ c.concrete_type_by_name.ensures in
    inserted (λ q. kept_at types (number_of n q)) (λ q. kept_at (slice_set types k (Some c.in-Some.t)) (number_of n q)) name c.in-Some.t (λ q. kept_now n c.requires.numbered name q k c.in-Some.t types at low)
    ∙ ap (with_type known name) found
    ∙ ap (with_definition schema known) (sym c.in-Fragment.is)
