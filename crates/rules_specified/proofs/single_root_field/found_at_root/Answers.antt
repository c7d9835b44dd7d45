use Rattle.std.proofs.Common.{◌≡◌, ◌∙◌, [], Some, slice_get, sym, ap, subst, rules}
use Rattle.std.specs.List.{filter}
use Rattle.std.specs.Option.{option_copied}
use Rattle.rules_specified.specs.Collecting.{placed}
use Rattle.rules_specified.specs.FoundAtRoot.{is_none}
use Rattle.rules_specified.specs.SingleRootField.{has_other_name, introspections, is_introspection, others, places}
use Rattle.rules_specified.proofs.FoundLaws.{all_noted, first_there, none_first, one_more}
use Rattle.rules_specified.proofs.single_root_field.found_at_root.Goals as goal

pub returns-in_default : goal.returns-in_default
returns-in_default g c =
    let (after, all) = c.in_ok-fields.ensures in
    let empty : c.in_ok-fields.fields.items ≡ [] =
    sym c.deref.ensures.value ∙ none_first _ (sym c.first.ensures.value ∙ ap option_copied c.in_default.is) in (
      placed c.in_ok-fields.fields.items,
      after,
      all,
      record {
        empty = sym (ap (λ xs. is_none (placed xs)) empty);
        others = c.new.ensures.items ∙ sym (ap (λ xs. places (others (placed xs))) empty);
        introspections = c.new-2.ensures.items ∙ sym (ap (λ xs. places (introspections (placed xs))) empty);
      },
    )

pub loop-collected-preserved : goal.loop-collected-preserved
loop-collected-preserved g c =
    let name = c.response_name-name.result.now in
    let items = c.deref-collected-items.result.now in
    let i = c.loop-collected.collected-index in
    let x = c.collected-item.result in
    let (empty, names, inner) = c.loop-collected.invariant in (
      c.in_ok-note.ensures.empty ∙ empty,
      one_more (has_other_name name) items i x _ _ _ c.loop-collected-test.true (sym c.collected-item.is) c.in_ok-note.ensures.others names,
      one_more (λ f. is_introspection f.item) items i x _ _ _ c.loop-collected-test.true (sym c.collected-item.is) c.in_ok-note.ensures.introspections inner,
    )

pub returns : goal.returns
returns g c =
    let (after, all) = c.in_ok-fields.ensures in
    let fields = c.in_ok-fields.fields.items in
    let name = c.response_name-name.result.now in
    let items = c.deref-collected-items.result.now in
    let i = c.loop-collected.collected-index in
    let (empty, names, inner) = c.loop-collected.invariant in
    let at : slice_get fields 0 ≡ Some c.in-Some.first.now = search rules in
    let (firsts, some) = first_there fields c.in-Some.first.now at in (
      placed fields,
      after,
      all,
      record {
        empty = empty ∙ some;
        others = all_noted (has_other_name name) items i _ _ c.loop-collected-test.false names
            ∙ ap (λ xs. places (filter (has_other_name name) (placed xs))) c.deref-collected-items.ensures.value
            ∙ ap (λ n. places (filter (has_other_name n) (placed fields))) c.response_name-name.ensures
            ∙ sym (ap places firsts);
        introspections = all_noted (λ f. is_introspection f.item) items i _ _ c.loop-collected-test.false inner
            ∙ ap (λ xs. places (introspections (placed xs))) c.deref-collected-items.ensures.value;
      },
    )
