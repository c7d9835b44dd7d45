use Rattle.std.proofs.Common.{◌≡◌, Some, false, List, ℕ, Bool, slice_get, slice_set, true, subst, sym, ap, ◌∙◌}
use Rattle.fragment_reach.specs.Search.{WellMarked}
use Rattle.fragment_reach.proofs.Marking.{well_one, marks_seen}
use Rattle.fragment_reach.proofs.search.mark.Goals as goal

true_false : (b : Bool) → b ≡ true → b ≡ false → ⊥
true_false b h k = cc

pub returns-in_ok-push-clause-well : goal.returns-in_ok-push-clause-well
returns-in_ok-push-clause-well c =
    let marks = c.args.marks.now.items in
    let new = subst (λ (zs : List Bool). slice_get zs c.args.spread.target ≡ Some false) c.as_slice.ensures.value (c.is_unmarked.ensures.0 c.if-is_unmarked.true) in
    subst (λ (zs : List ℕ). WellMarked zs (slice_set marks c.args.spread.target true)) (sym c.in_ok-push.ensures.items)
    (well_one c.args.order.now.items marks c.args.spread c.requires new)

pub returns-else-is_unmarked-clause-marks : goal.returns-else-is_unmarked-clause-marks
returns-else-is_unmarked-clause-marks c =
    marks_seen c.args.order.now.items c.args.marks.now.items c.args.spread
    (λ h. let t = c.is_unmarked.ensures.1 (ap (λ (zs : List Bool). slice_get zs c.args.spread.target) c.as_slice.ensures.value ∙ h) in true_false _ t c.if-is_unmarked.false)
