use Rattle.std.proofs.Common.{◌≡◌, ◌∙◌, [], ◌∷◌, ◌++◌, sym, ap, subst, refl, reverse, rules}
use Rattle.std.proofs.lemmas.List.{append-nil}
use Rattle.language_types.specs.References.{list_copied}
use Rattle.rules_specified.specs.Collecting.{Leads, placed}
use Rattle.rules_specified.proofs.CollectingLaws.{all_collected, leads_as, leads_on, leads_same, waits}
use Rattle.rules_specified.proofs.collected.collected.Goals as goal

pub loop-init : goal.loop-init
loop-init g c =
    let root = c.args.root.now in
    let truth = g.S.ScalarValue.bool_of in
    let bits = c.new-2.result in
    let only = c.args.set.now ∷ [] in
    let none = ap placed c.new-3.ensures.items in
    let waiting = waits c.new.result.items c.push.new.self.items c.args.set c.in_ok-push.ensures.items ∙ ap (λ xs. c.args.set.now ∷ reverse (list_copied xs)) c.new.ensures.items in
    subst (λ fs. Leads truth root bits only (reverse (list_copied c.push.new.self.items)) fs []) (sym none)
    (leads_as truth root only only only _ refl (sym waiting) (leads_same truth root bits only [] (λ name k at. c.new-2.ensures k)))

pub returns-in_default : goal.returns-in_default
returns-in_default g c =
    let root = c.args.root.now in
    let truth = g.S.ScalarValue.bool_of in
    let empty : c.loop.state.waiting.items ≡ [] = search rules in
    let none = ap (λ xs. reverse (list_copied xs)) empty in
    all_collected truth root (leads_as truth root _ _ _ [] refl none c.loop.invariant)

pub loop-preserved : goal.loop-preserved
loop-preserved g c =
    let root = c.args.root.now in
    let truth = g.S.ScalarValue.bool_of in
    let before = leads_as truth root _ _ _ _ refl (waits _ _ c.in-Some.next c.in-Some.ensures.items) c.loop.invariant in
    let (added, fields, more) = c.in_ok-collect_first.ensures before.opened before.marks in
    subst (λ fs. Leads truth root c.collect_first.new.state.opened (c.args.set.now ∷ []) (reverse (list_copied c.collect_first.new.state.waiting.items)) fs [])
    (sym fields) (leads_on truth root before more)
