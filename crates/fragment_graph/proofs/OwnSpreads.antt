-- The spread that a selection is itself, and those of its set.
use Rattle.std.proofs.Common.{◌≡◌, List, [], ◌∷◌, ◌++◌, map, sym, ap, ◌∙◌, append-nil}
use Rattle.language_types.specs.declared.position.Span.{Span}
use Rattle.language_types.specs.declared.position.Spanning.{Spanning}
use Rattle.language.specs.declared.tree.FragmentSpread.{FragmentSpread}
use Rattle.language.specs.declared.tree.Selection.{Selection}
use Rattle.language.specs.declared.tree.Selection.TheVariants as v
use Rattle.fragment_graph.specs.declared.graph.Spread.{Spread}
use Rattle.fragment_graph.specs.declared.numbers.Numbers.{Numbers}
use Rattle.fragment_graph.specs.DocumentGraph.{resolved}
use Rattle.fragment_graph.specs.Preorder.{set_inside}
use Rattle.fragment_graph.specs.Spreads.{placed_spreads_of, placed_spreads_of_all}
use Rattle.fragment_graph.proofs.Placed.{placed-Spread}
use Rattle.fragment_graph.proofs.PreorderLaws.{set_inside-Spread}

module _ {S : Type 0} (n : Numbers) (s : Selection S) where
  pub none_own : (found : List Spread) → placed_spreads_of s ≡ placed_spreads_of_all (set_inside s)
      → found ++ map (resolved n) (placed_spreads_of_all (set_inside s)) ≡ found ++ map (resolved n) (placed_spreads_of s)
  none_own found e = ap (λ zs. found ++ map (resolved n) zs) (sym e)

  pub one_own : (f : Spanning (FragmentSpread S) Span) (x : Spread) (old new : List Spread) → s ≡ v.FragmentSpread f
      → x ≡ resolved n (record { name = f.item.name.item.now; place = f.span.start }) → new ≡ old ++ x ∷ []
      → new ++ map (resolved n) (placed_spreads_of_all (set_inside s)) ≡ old ++ map (resolved n) (placed_spreads_of s)
  one_own f x old new p is e =
      ap (λ zs. new ++ map (resolved n) (placed_spreads_of_all zs)) (set_inside-Spread s f p)
      ∙ append-nil new
      ∙ e
      ∙ ap (λ y. old ++ y ∷ []) is
      ∙ ap (λ zs. old ++ map (resolved n) zs) (sym (placed-Spread s f p))
