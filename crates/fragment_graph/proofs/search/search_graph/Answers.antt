use Rattle.std.proofs.Common.{◌≡◌, ◌<◌, ◌++◌, ◌∷◌, [], length, Some, slice_get, ℕ, ◌+◌, List, sym, subst, ap, arith, below_more, refl, ◌∙◌}
use Rattle.std.specs.List.{All}
use Rattle.std.proofs.lemmas.List.{length-replicate}
use Rattle.std.proofs.lemmas.List.Elements.{All-contains, All-replicate}
use Rattle.fragment_graph.specs.declared.search.Step.{Step}
use Rattle.fragment_graph.specs.declared.search.Report.{Report}
use Rattle.fragment_graph.specs.declared.search.Colour.{Colour}
use Rattle.fragment_graph.specs.declared.search.Colour.TheVariants.{New}
use Rattle.fragment_graph.specs.Sound.{Sound}
use Rattle.fragment_graph.proofs.Lists.{contains_at}
use Rattle.fragment_graph.proofs.Steps.{sound_root, sound_start}
use Rattle.fragment_graph.proofs.Judge.{searched}
use Rattle.fragment_graph.proofs.search.search_graph.Goals as goal

pub loop-root-init : goal.loop-root-init
loop-root-init c =
    let cs = c.in_ok-new_colours.field-0.items in
    let n = length c.args.graph.now in
    let all = c.in_ok-new_colours.ensures in
    let new = subst (All (λ z. z ≡ New)) (sym all) (All-replicate (λ z. z ≡ New) n New refl) in (
      subst (λ (zs : List ℕ). Sound c.args.graph.now [] [] cs zs c.new-2.result.items 0) (sym c.in_ok-with_capacity.ensures.items)
          (subst (λ (zs : List Report). Sound c.args.graph.now [] [] cs [] zs 0) (sym c.new-2.ensures.items)
          (sound_start c.args.graph.now cs (ap length all ∙ length-replicate n New)
          (λ v k g. All-contains (λ z. z ≡ New) cs k new (contains_at cs v k g)))),
      c.new.ensures.items,
      λ v l. absurd (omega (arith, l)),
    )

pub meet-requires : goal.meet-requires
meet-requires c =
    let s = c.loop-root.search in
    let g = c.args.graph.now in
    subst (λ (zs : List Step). Sound g zs (c.loop-root.root ∷ []) s.colours.items s.order.items s.reports.items s.looked) (sym c.loop-root.invariant.1)
    (sound_root g c.loop-root.root s.colours.items s.order.items s.reports.items s.looked c.loop-root.invariant.0)

pub loop-root-preserved : goal.loop-root-preserved
loop-root-preserved c = (
  c.in_ok-run.ensures.sound,
  c.in_ok-run.ensures.empty,
  below_more (λ v. slice_get c.run.new.search.colours.items v ≡ Some New → ⊥) c.loop-root.root
      (λ v l g. c.loop-root.invariant.2 v l (c.in_ok-meet.ensures.keeps v (c.in_ok-run.ensures.keeps v g)))
      (λ g. c.in_ok-meet.ensures.begun (c.in_ok-run.ensures.keeps c.loop-root.root g)),
)

pub returns : goal.returns
returns c =
    let s = c.loop-root.search in
    searched c.args.graph.now s.colours.items _ c.loop-root.invariant.0
    (λ v l g. c.loop-root.invariant.2 v (omega (arith, l, c.loop-root-test.false)) g)
    (subst (λ (zs : List Colour). c.in_ok-ranks.ranks.items ≡ Rattle.std.proofs.Common.map Rattle.fragment_graph.specs.Searched.rank_of zs) c.as_slice.ensures.value c.in_ok-ranks.ensures)
