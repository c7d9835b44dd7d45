use Rattle.std.proofs.Common.{◌≡◌, ◌⊎◌, true, false, refl, subst}
use Rattle.std.specs.List.{Contains}
use Rattle.merge_decision.proofs.Deciding.{adds_new, adds_there}
use Rattle.merge_decision.proofs.work.add_union.Goals as goal

pub returns-then-is_there : goal.returns-then-is_there
returns-then-is_there c = λ w. adds_there w c.args.work.now c.args.union.flag c.args.union.sets.items c.if-is_there.ensures

pub returns : goal.returns
returns c = λ w. adds_new w c.args.work.now _ c.args.union c.in_ok-push.ensures.items refl refl
    (λ t h. subst (λ zs. (Rattle.bit_matrix.specs.Set.has c.args.work.now.held t ≡ true) ⊎ ((c.args.union.flag ≡ false) × Contains zs t)) c.as_slice.ensures.value (c.in_ok-note_held.ensures t h))
