use Rattle.std.proofs.Common.{◌⊎◌, length}
use Rattle.std.specs.List.{Contains}
use Rattle.merge_certificates.specs.declared.unions.Union.{Union}
use Rattle.merge_sets.specs.World.{World}
use Rattle.merge_decision.specs.Decided.{Grows, Holds, IsSound}
use Rattle.merge_decision.proofs.work.add_unions.Given as goal

abbrev pub invariant-loop-union : goal.invariant-loop-union
invariant-loop-union l = (w : World) → Grows w l.fn.work l.work
    × (IsSound w l.fn.work → (v : Union) → Contains l.fn.unions.items v → Contains l.rest.items v ⊎ Holds w l.work.unions.items v.flag v.sets.items)

abbrev pub decreases-loop-union : goal.decreases-loop-union
decreases-loop-union l = length l.rest.items
