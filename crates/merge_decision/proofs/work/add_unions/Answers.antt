use Rattle.std.proofs.Common.{rules, ◌≡◌, [], inl, length, length-append, ap, arith, ◌∷◌}
use Rattle.std.proofs.lemmas.Grind.{common_steps}
use Rattle.merge_decision.proofs.Deciding.{adds_end, adds_next, grows_same, grows_then}
use Rattle.merge_decision.proofs.work.add_unions.Goals as goal

pub loop-union-init : goal.loop-union-init
loop-union-init c = λ w. (grows_same w c.args.work.now, λ sound v h. inl h)

pub loop-union-preserved : goal.loop-union-preserved
loop-union-preserved c = λ w.
    let before = c.loop-union.invariant w in
    let added = c.in_ok-add_union.ensures w in (
      grows_then w c.args.work.now c.loop-union.work c.add_union.new.work before.0 added.grows,
      adds_next w c.args.unions.items c.pop.new.self.items c.loop-union.rest.items c.in-Some.union c.args.work.now c.loop-union.work c.add_union.new.work
          c.in-Some.ensures.items before.0 added before.1,
    )

pub loop-union-smaller : goal.loop-union-smaller
loop-union-smaller c = omega (arith, ap length c.in-Some.ensures.items, length-append c.pop.new.self.items (c.in-Some.union ∷ []))

pub returns : goal.returns
returns c = λ w.
    let none : c.loop-union.rest.items ≡ [] = first_of (search rules, grind (arith, common_steps)) in
    let told = c.loop-union.invariant w in
    adds_end w c.args.unions.items c.loop-union.rest.items c.args.work.now c.loop-union.work none told.0 told.1
