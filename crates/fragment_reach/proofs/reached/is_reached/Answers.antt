use Rattle.std.proofs.Common.{ℕ, List, Bool, subst, sym, ◌∙◌}
use Rattle.fragment_graph.proofs.Lists.{same_item}
use Rattle.fragment_reach.specs.Search.{IsMarked}
use Rattle.fragment_reach.proofs.reached.is_reached.Goals as goal

pub returns-in-Some : goal.returns-in-Some
returns-in-Some c = λ name h.
    let k = c.in-Some.found in
    let here = sym h ∙ c.in-Some.is in (
      λ t. (k, here, subst (λ (zs : List Bool). IsMarked zs k) c.as_slice.ensures.value (c.is_marked.ensures.0 t)),
      λ m. c.is_marked.ensures.1
          (subst (λ (zs : List Bool). IsMarked zs k) (sym c.as_slice.ensures.value)
          (subst (λ (i : ℕ). IsMarked c.args.reached.now.marks.items i) (same_item m.0 k _ m.1 here) m.2)),
    )
