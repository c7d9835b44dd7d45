use Rattle.std.proofs.Common.{ℕ, subst}
use Rattle.fragment_graph.specs.Numbers.{number_of}
use Rattle.fragment_graph.proofs.Lists.{same_item}
use Rattle.fragment_reach.specs.Search.{IsMarked}
use Rattle.fragment_reach.proofs.reached.reached_fragments.Goals as goal

pub returns-clause-reached : goal.returns-clause-reached
returns-clause-reached g c = λ name d.
    let k = (c.requires.graph.numbers.defined name).1 d in
    let m = c.in_ok-marks.ensures name k.0 k.1 in (
      λ h. m.0 (subst (λ (i : ℕ). IsMarked c.in_ok-marks.marks.items i) (same_item h.0 k.0 (number_of c.args.graph.now.numbers name) h.1 k.1) h.2),
      λ r. (k.0, k.1, m.1 r),
    )
