use Rattle.std.proofs.Common.{◌≡◌, ◌∙◌, ◌&&◌, sym, ap, refl, false}
use Rattle.std.specs.List.{list_all}
use Rattle.language_values.specs.declared.value_same.Matching.TheVariants as m
use Rattle.language_values.specs.ValuesSame.{same_value, same_entry, is_match}
use Rattle.language_values.proofs.Steps.{pairs_first, pairs_of_none, pairs_past, all_put, and_left_false}
use Rattle.language_values.proofs.value_same.match_entries.Goals as goal

pub returns : goal.returns
returns g c =
    let E = g.S.PartialEq.eq in
    let inside = same_value E c.in-Some.x.now.1.item c.in-Some-split_first.y.now.1.item in
    let test : same_entry (same_value E) c.in-Some.x.now c.in-Some-split_first.y.now ≡ inside =
    ap (λ s. s && inside) (sym c.places_same.ensures ∙ c.if-not-places_same.false) in
    all_put (is_match E) c.args.waiting.now.items c.push.new.self.items c.push-2.new.self.items
    (m.Entries c.in-Some.xs c.in-Some-split_first.ys) c.match_values.result _ _ c.in_ok-push.ensures.items c.in_ok-push-2.ensures.items
    refl c.match_values.ensures
    ∙ ap (λ b. b && list_all (is_match E) c.args.waiting.now.items)
    (sym (pairs_first (same_entry (same_value E)) c.args.left.now c.in-Some.xs.now c.args.right.now c.in-Some-split_first.ys.now
    c.in-Some.x.now c.in-Some-split_first.y.now inside c.in-Some.ensures.cases.0 c.in-Some-split_first.ensures.cases.0 test))

pub returns-in_default : goal.returns-in_default
returns-in_default g c =
    let E = g.S.PartialEq.eq in
    ap (λ b. b && list_all (is_match E) c.args.waiting.now.items)
    (pairs_of_none (same_entry (same_value E)) c.args.left.now c.args.right.now c.is_empty.result c.in_default.ensures.cases
    c.is_empty.ensures)

pub returns-in_default-split_first : goal.returns-in_default-split_first
returns-in_default-split_first g c =
    let E = g.S.PartialEq.eq in
    ap (λ b. b && list_all (is_match E) c.args.waiting.now.items)
    (sym (pairs_past (same_entry (same_value E)) c.args.left.now c.in-Some.xs.now c.args.right.now c.in-Some.x.now
    c.in-Some.ensures.cases.0 c.in_default-split_first.ensures.cases))

pub returns-then-not-places_same : goal.returns-then-not-places_same
returns-then-not-places_same g c =
    let E = g.S.PartialEq.eq in
    let test : same_entry (same_value E) c.in-Some.x.now c.in-Some-split_first.y.now ≡ false =
    and_left_false _ _ (sym c.places_same.ensures ∙ c.if-not-places_same.true) in
    ap (λ b. b && list_all (is_match E) c.args.waiting.now.items)
    (sym (pairs_first (same_entry (same_value E)) c.args.left.now c.in-Some.xs.now c.args.right.now c.in-Some-split_first.ys.now
    c.in-Some.x.now c.in-Some-split_first.y.now false c.in-Some.ensures.cases.0 c.in-Some-split_first.ensures.cases.0 test))
