use Rattle.std.proofs.Common.{◌≡◌, Some, None, slice_get, ℕ, List, sym, subst, ap, arith, inl, inr, ◌∙◌}
use Rattle.std.proofs.lemmas.Result.{on_ok_weaker}
use Rattle.std.proofs.lemmas.Option.{slice_get_within}
use Rattle.fragment_graph.specs.declared.search.Colour.{Colour}
use Rattle.fragment_graph.specs.declared.search.Colour.TheVariants.{New, InWork, Finished}
use Rattle.fragment_graph.proofs.Lists.{same_item, none_some, get_none}
use Rattle.fragment_graph.proofs.Steps.{sound_settle, new_finished, new_work}
use Rattle.fragment_graph.proofs.search.meet.Goals as goal

at_none : (xs ys : List Colour) (v : ℕ) → xs ≡ ys → None ≡ slice_get xs v → slice_get ys v ≡ None
at_none xs ys v e h = sym (subst (λ (zs : List Colour). None ≡ slice_get zs v) e h)

at_some : (xs ys : List Colour) (v : ℕ) (c d : Colour) → xs ≡ ys → Some c ≡ slice_get xs v → c ≡ d → slice_get ys v ≡ Some d
at_some xs ys v c d e h is = sym (subst (λ (zs : List Colour). Some c ≡ slice_get zs v) e h) ∙ ap Some is

pub returns-in-None-clause-sound : goal.returns-in-None-clause-sound
returns-in-None-clause-sound c =
    let s = c.args.search.now in
    let past = get_none s.colours.items c.args.node (at_none c.as_slice.result.now s.colours.items c.args.node c.as_slice.ensures.value c.in-None.ensures) in
    let sized = c.requires.sized in
    sound_settle c.args.graph.now s.path.items c.args.node s.colours.items s.order.items s.reports.items s.looked (inl (omega (arith, past, sized))) c.requires

pub returns-in-None-clause-begun : goal.returns-in-None-clause-begun
returns-in-None-clause-begun c = λ g.
    let s = c.args.search.now in
    none_some New (sym (at_none c.as_slice.result.now s.colours.items c.args.node c.as_slice.ensures.value c.in-None.ensures) ∙ g)

pub returns-in-Some-InWork-clause-begun : goal.returns-in-Some-InWork-clause-begun
returns-in-Some-InWork-clause-begun c =
    let s = c.args.search.now in
    let d = c.in-Some-InWork.depth in
    let at = at_some c.as_slice.result.now s.colours.items c.args.node c.in-Some-InWork.field-0 (InWork d) c.as_slice.ensures.value c.in-Some-InWork.ensures c.in-Some-InWork.field-0-is in
    on_ok_weaker c.report_cycle.result
    (λ _ g. new_work d (same_item New (InWork d) (slice_get s.colours.items c.args.node)
    (subst (λ (zs : List Colour). slice_get zs c.args.node ≡ Some New) c.report_cycle.ensures.same g) at))
    c.report_cycle.ensures.sound

pub returns-in-Some-Finished-clause-sound : goal.returns-in-Some-Finished-clause-sound
returns-in-Some-Finished-clause-sound c =
    let s = c.args.search.now in
    let r = c.in-Some-Finished.field-0-0 in
    let at = at_some c.as_slice.result.now s.colours.items c.args.node c.in-Some-Finished.field-0 (Finished r) c.as_slice.ensures.value c.in-Some-Finished.ensures c.in-Some-Finished.field-0-is in
    let f = c.requires.finished c.args.node r at in
    sound_settle c.args.graph.now s.path.items c.args.node s.colours.items s.order.items s.reports.items s.looked
    (inr (inr (r, at, slice_get_within s.order.items r c.args.node f.0))) c.requires

pub returns-in-Some-Finished-clause-begun : goal.returns-in-Some-Finished-clause-begun
returns-in-Some-Finished-clause-begun c = λ g.
    let s = c.args.search.now in
    let r = c.in-Some-Finished.field-0-0 in
    let at = at_some c.as_slice.result.now s.colours.items c.args.node c.in-Some-Finished.field-0 (Finished r) c.as_slice.ensures.value c.in-Some-Finished.ensures c.in-Some-Finished.field-0-is in
    new_finished r (same_item New (Finished r) (slice_get s.colours.items c.args.node) g at)
