use Rattle.std.proofs.Common.{◌∙◌, ◌<◌, sym, subst, ap, arith, Some, []}
use Rattle.std.specs.Option.{unwrap_or}
use Rattle.std.proofs.lemmas.Bool.{ltb-true}
use Rattle.std.proofs.lemmas.Slice.Eq.{bytes_eq-Decides}
use Rattle.fragment_graph.specs.Numbers.{names_of}
use Rattle.fragment_graph.proofs.Lists.{get_some}
use Rattle.fragment_graph.proofs.kept.is_number.Goals as goal

pub returns-then-number-name_count : goal.returns-then-number-name_count
returns-then-number-name_count c = λ t.
    let low = subst (λ n. c.args.number < n) c.name_count.ensures c.if-number-name_count.true in
    let at = get_some (names_of c.args.numbers.now) c.args.number low in
    at.1 ∙ ap Some (sym (ap (λ o. unwrap_or o []) at.1) ∙ sym c.name.ensures ∙ (bytes_eq-Decides c.name.result.now c.args.named.now).0 (sym c.eq.ensures ∙ t))

pub returns-else-number-name_count : goal.returns-else-number-name_count
returns-else-number-name_count c = λ t.
    let low = ltb-true c.args.number c.name_count.result t in
    let past = c.if-number-name_count.false in
    absurd (omega (arith, low, past))
