use Rattle.std.proofs.Common.{◌≡◌, ◌+◌, ◌<◌, ℕ, arith, get_or, length, subst, sym, take}
use Rattle.std.proofs.lemmas.List.{take_all}
use Rattle.std.proofs.lemmas.List.Sums.{sum_by_more}
use Rattle.merge_search.specs.Weight.{field_weight, fields_weight}
use Rattle.merge_sets.specs.World.{world, own_of}
use Rattle.merge_search.proofs.Weights.{own_weight}
use Rattle.merge_sets.proofs.OneName.{no_entry}
use Rattle.merge_search.proofs.repeats.+fields.Goals as goal

pub less_fields-loop-field-preserved : goal.less_fields-loop-field-preserved
less_fields-loop-field-preserved g t c =
    let v = world g.J.Judge.judgement c.args.graph.now in
    let items = c.own-field-items.result.now in
    let own = own_of v c.args.s in
    let k = c.loop-field.field-index in
    let less : k < length items = c.loop-field-test.true in
    let one = c.less_field-left.ensures in
    let more = subst (λ xs. fields_weight v (take (k + 1) xs) ≡ fields_weight v (take k xs) + field_weight v (get_or items k no_entry)) c.own-field-items.ensures
    (sum_by_more (field_weight v) items k no_entry less) in (
      omega (arith, one.few, c.loop-field.invariant.0),
      λ some.
          let here : c.less_field-left.result + field_weight v (get_or items k no_entry) ≡ c.loop-field.left = one.less some in
          omega (arith, more, here, some, c.loop-field.invariant.1 (omega (arith, some, one.few))),
    )

pub less_fields-returns-clause-less : goal.less_fields-returns-clause-less
less_fields-returns-clause-less g t c some =
    let v = world g.J.Judge.judgement c.args.graph.now in
    let own = own_of v c.args.s in
    let all = subst (λ xs. take c.loop-field.field-index xs ≡ xs) c.own-field-items.ensures (take_all c.loop-field.field-index c.own-field-items.result.now c.loop-field-test.false) in
    subst (λ (n : ℕ). c.loop-field.left + n ≡ c.args.number) (sym (own_weight v c.args.graph.now.falling c.args.s))
    (subst (λ xs. c.loop-field.left + fields_weight v xs ≡ c.args.number) all (c.loop-field.invariant.1 some))
