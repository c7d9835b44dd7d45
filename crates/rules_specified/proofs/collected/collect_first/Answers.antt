use Rattle.std.proofs.Common.{◌≡◌, ◌∙◌, [], ◌∷◌, ◌++◌, sym, ap, subst, refl, reverse}
use Rattle.std.proofs.lemmas.List.{append-nil, nil_from_length, map-append}
use Rattle.language_types.specs.References.{list_copied}
use Rattle.rules_specified.specs.Collecting.{IsPart, Marks, part_at, placed}
use Rattle.rules_specified.specs.declared.collected.RootField.{RootField}
use Rattle.rules_specified.proofs.CollectingLaws.{leads_as, leads_end, leads_field, leads_nothing, leads_set, waits}
use Rattle.rules_specified.proofs.collected.collect_first.Goals as goal

pub returns-in_default : goal.returns-in_default
returns-in_default g c names m =
    let root = c.args.root.now in
    let truth = g.S.ScalarValue.bool_of in
    let sets = reverse (list_copied c.args.state.now.waiting.items) in (
      [],
      sym (append-nil _),
      leads_as truth root _ _ sets sets (ap (λ z. z ∷ sets) (sym (nil_from_length c.args.set.now c.in_default.ensures.cases))) refl
          (leads_end truth root c.args.state.now.opened sets names m),
    )

pub returns-in-Nothing : goal.returns-in-Nothing
returns-in-Nothing g c names m =
    let root = c.args.root.now in
    let truth = g.S.ScalarValue.bool_of in
    let sets = reverse (list_copied c.args.state.now.waiting.items) in
    let first = c.in-Some.first.now in
    let (after, marks, part) = c.in_ok-found_at.ensures names m in
    let (is, same) = subst (λ f. IsPart names after (part_at truth root names first) f) c.in-Nothing.is part in (
      [],
      sym (append-nil _),
      leads_as truth root _ _ _ _ (ap (λ z. z ∷ sets) (sym c.in-Some.ensures.cases.0)) (sym (waits _ _ c.in-Some.rest c.in_ok-push.ensures.items))
          (leads_nothing truth root c.found_at.new.opened first c.in-Some.rest.now sets names (subst (Marks root.numbers c.found_at.new.opened) same marks) is),
    )

pub returns-in_ok-push-in-Field : goal.returns-in_ok-push-in-Field
returns-in_ok-push-in-Field g c names m =
    let root = c.args.root.now in
    let truth = g.S.ScalarValue.bool_of in
    let sets = reverse (list_copied c.args.state.now.waiting.items) in
    let first = c.in-Some.first.now in
    let f = c.in-Field.field in
    let collected : RootField g.row.S.Denot = record { field = f } in
    let (after, marks, part) = c.in_ok-found_at.ensures names m in
    let (is, same) = subst (λ z. IsPart names after (part_at truth root names first) z) c.in-Field.is part in (
      f.now ∷ [],
      ap placed c.in_ok-push-in-Field.ensures.items ∙ map-append (λ r. r.field.now) c.args.state.now.fields.items (collected ∷ []),
      leads_as truth root _ _ _ _ (ap (λ z. z ∷ sets) (sym c.in-Some.ensures.cases.0)) (sym (waits _ _ c.in-Some.rest c.in_ok-push.ensures.items))
          (leads_field truth root c.found_at.new.opened first f.now c.in-Some.rest.now sets names (subst (Marks root.numbers c.found_at.new.opened) same marks) is),
    )

pub returns-in_ok-push-in-Inside : goal.returns-in_ok-push-in-Inside
returns-in_ok-push-in-Inside g c names m =
    let root = c.args.root.now in
    let truth = g.S.ScalarValue.bool_of in
    let sets = reverse (list_copied c.args.state.now.waiting.items) in
    let first = c.in-Some.first.now in
    let inner = c.in-Inside.inner in
    let (after, marks, part) = c.in_ok-found_at.ensures names m in
    let is = subst (λ z. IsPart names after (part_at truth root names first) z) c.in-Inside.is part in (
      [],
      sym (append-nil _),
      leads_as truth root _ _ _ _ (ap (λ z. z ∷ sets) (sym c.in-Some.ensures.cases.0))
          (sym (waits _ _ inner c.in_ok-push-in-Inside.ensures.items ∙ ap (λ z. inner.now ∷ z) (waits _ _ c.in-Some.rest c.in_ok-push.ensures.items)))
          (leads_set truth root c.found_at.new.opened first inner.now c.in-Some.rest.now sets names after marks is),
    )
