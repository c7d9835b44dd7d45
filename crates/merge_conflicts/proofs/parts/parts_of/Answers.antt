use Rattle.std.proofs.Common.{[], sym, subst}
use Rattle.merge_conflicts.specs.Parts.{ArePartsOf, no_parts}
use Rattle.merge_conflicts.proofs.parts.parts_of.Goals as goal

pub returns-clause-parts : goal.returns-clause-parts
returns-clause-parts c rs h =
    let kept = c.loop-rest.invariant.parts rs h in
    let end = c.in_default.ensures.last kept.0 kept.1 in
    subst (ArePartsOf rs) (sym c.reverse.ensures.items) (kept.2 [] (subst (λ q. ArePartsOf q []) (sym end) no_parts))
