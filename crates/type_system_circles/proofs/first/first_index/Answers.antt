use Rattle.std.proofs.Common.{◌<◌, arith, get_or, inl, inr, length, subst, sym}
use Rattle.std.proofs.lemmas.Option.{slice_get-get_or}
use Rattle.type_system_circles.specs.declared.graph.Link.{Link}
use Rattle.type_system_circles.proofs.Firsts.{first_one, first_step}
use Rattle.type_system_circles.proofs.first.first_index.Goals as goal
use Rattle.type_system_circles.proofs.first.first_index.Goals.{then-links-index, else-links-index}

pub loop-index-init : goal.loop-index-init
loop-index-init c = (c.requires, first_one c.args.links.now c.requires)

pub loop-index-preserved : goal.loop-index-preserved
loop-index-preserved c =
    let links = c.args.links.now in
    let i = c.loop-index.index in
    let f = c.loop-index.first in
    let d : Link = record { from = 0; edge = record { target = 0; field = 0 } } in
    let inside = c.loop-index.invariant.0 in
    let test = c.loop-index-test.true in
    elim c.if-links-index.branch [
      | then-links-index w ↦ (subst (λ k. k < length links) (sym w.first-is) test, first_step links i f _ d test c.loop-index.invariant.1 (inl (w.first-is, w.if-links-index.true)))
      | else-links-index w ↦ (subst (λ k. k < length links) (sym w.first-is) inside, first_step links i f _ d test c.loop-index.invariant.1 (inr (w.first-is, w.if-links-index.false)))
    ]

pub returns : goal.returns
returns c =
    let links = c.args.links.now in
    let h = c.loop-index.invariant.1 in
    let past = c.loop-index-test.false in
    (h.0, h.1, λ i d lt. h.2 i (get_or links i d) (omega (arith, lt, past)) (slice_get-get_or links i d lt))
