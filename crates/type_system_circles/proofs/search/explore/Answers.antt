use Rattle.std.proofs.Common.{Option, ℕ, slice_get, slice_set, subst, sym}
use Rattle.fragment_graph.proofs.Lists.{same_item, set_same, set_was}
use Rattle.type_system_circles.specs.declared.search.Colour.TheVariants.{New, InWork}
use Rattle.type_system_circles.specs.Sound.{Ends}
use Rattle.type_system_circles.proofs.Ends.{begin}
use Rattle.type_system_circles.proofs.Steps.{new_work}
use Rattle.type_system_circles.proofs.search.explore.Goals as goal

pub loop-init : goal.loop-init
loop-init c =
    let s = c.args.search.now in
    let i = c.requires.idle in
    let root = c.args.root in
    let cs = s.colours.items in
    let r = begin c.args.graph.now root s.trail.items cs s.looked.items s.circles.items _ i.none c.requires.new i.sound in (
      record { sound = r.0; root = root; walk = r.1 },
      λ v g. set_was cs root v New (InWork 0) New c.requires.new (λ e. new_work 0 (sym e)) g,
      λ g. new_work 0 (same_item New (InWork 0) (slice_get (slice_set cs root (InWork 0)) root) g (set_same cs root New (InWork 0) c.requires.new)),
    )

pub step-requires-clause-at : goal.step-requires-clause-at
step-requires-clause-at c = subst (λ (o : Option ℕ). Ends c.args.graph.now o c.loop.search) c.in-Some.is c.loop.invariant.0

pub loop-preserved : goal.loop-preserved
loop-preserved c = (
  c.in_ok-end-in-Some.ensures.ends,
  λ v g. c.loop.invariant.1 v (c.in_ok-end-in-Some.ensures.keeps v g),
  λ g. c.loop.invariant.2 (c.in_ok-end-in-Some.ensures.keeps c.args.root g),
)

pub returns-in-None-clause-idle : goal.returns-in-None-clause-idle
returns-in-None-clause-idle c = subst (λ (o : Option ℕ). Ends c.args.graph.now o c.loop.search) c.in-None.is c.loop.invariant.0

pub returns-in-None-clause-begun : goal.returns-in-None-clause-begun
returns-in-None-clause-begun c = c.loop.invariant.2

pub returns-in-None-clause-keeps : goal.returns-in-None-clause-keeps
returns-in-None-clause-keeps c = c.loop.invariant.1
