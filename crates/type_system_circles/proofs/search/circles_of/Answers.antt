use Rattle.std.proofs.Common.{ℕ, ◌<◌, ◌≡◌, List, [], Some, ap, arith, below_more, length, refl, slice_get, subst, sym, ◌∙◌}
use Rattle.std.proofs.lemmas.List.{length-replicate}
use Rattle.type_system_circles.specs.declared.graph.Link.{Link}
use Rattle.type_system_circles.specs.declared.search.Circle.{Circle}
use Rattle.type_system_circles.specs.declared.search.Colour.TheVariants.{New}
use Rattle.type_system_circles.specs.Sound.{Sound}
use Rattle.type_system_circles.proofs.Judge.{found, looked_once}
use Rattle.type_system_circles.proofs.Steps.{sound_start}
use Rattle.type_system_circles.proofs.search.circles_of.Goals as goal

pub loop-root-init : goal.loop-root-init
loop-root-init c =
    let g = c.args.graph.now in
    let s = c.in_ok-search.search in
    let e = c.in_ok-search.ensures in
    let n = length g in
    let cs = s.colours.items in
    let lo = s.looked.items in
    let start = sound_start g n refl cs e.colours lo e.looked (ap length e.colours ∙ length-replicate n New) (ap length e.looked ∙ length-replicate n 0) in (
      record {
        sound = subst (λ (k : ℕ). Sound g [] s.trail.items cs lo s.circles.items k) (sym (ap length e.order))
            (subst (λ (ci : List Circle). Sound g [] s.trail.items cs lo ci 0) (sym e.circles)
            (subst (λ (tr : List Link). Sound g [] tr cs lo [] 0) (sym e.trail) start));
        none = e.trail;
      },
      λ v l. absurd (omega (arith, l)),
    )

pub loop-root-preserved : goal.loop-root-preserved
loop-root-preserved c = (
  c.in_ok-visit.ensures.idle,
  below_more (λ v. slice_get c.visit.new.search.colours.items v ≡ Some New → ⊥) c.loop-root.root
      (λ v l g. c.loop-root.invariant.1 v l (c.in_ok-visit.ensures.keeps v g))
      c.in_ok-visit.ensures.begun,
)

pub returns : goal.returns
returns c =
    let g = c.args.graph.now in
    let s = c.loop-root.search in
    let i = c.loop-root.invariant.0 in
    let past = c.loop-root-test.false in
    let sound = subst (λ (tr : List Link). Sound g [] tr s.colours.items s.looked.items s.circles.items (length s.order.items)) i.none i.sound in
    let begun : (v : ℕ) → v < length g → slice_get s.colours.items v ≡ Some New → ⊥ = λ v lt new. c.loop-root.invariant.1 v (omega (arith, lt, past)) new in
    record {
      circles = found g s.colours.items s.looked.items s.circles.items (length s.order.items) sound begun;
      sized = i.sound.counted;
      looked = looked_once g s.colours.items s.looked.items s.circles.items (length s.order.items) sound begun;
    }
