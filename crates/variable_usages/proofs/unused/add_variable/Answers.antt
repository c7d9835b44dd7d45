use Rattle.std.proofs.Common.{map, subst, sym, ap, ◌∙◌, arith}
use Rattle.std.proofs.lemmas.List.{map-append}
use Rattle.variable_usages.specs.Unused.{StartBy, name_and_span, variable_at}
use Rattle.variable_usages.proofs.Variables.{start_later, start_next}
use Rattle.variable_usages.proofs.unused.add_variable.Goals as goal

pub is_found-requires : goal.is_found-requires
is_found-requires c = subst (λ vs. StartBy c.args.latest.now (map name_and_span vs)) (sym c.as_slice.ensures.value) c.requires

pub returns-clause-start : goal.returns-clause-start
returns-clause-start c =
    let old = c.args.found.now.items in
    let v = variable_at c.args.variable.now in
    let start = c.index.ensures in
    let second = c.later.ensures.second in
    subst (StartBy c.later.result)
    (sym (ap (map name_and_span) c.in_ok-push.ensures.items ∙ map-append name_and_span old _))
    (start_next c.later.result (map name_and_span old) v (start_later c.args.latest.now c.later.result (map name_and_span old) c.later.ensures.first c.requires) (omega (arith, start, second)))
