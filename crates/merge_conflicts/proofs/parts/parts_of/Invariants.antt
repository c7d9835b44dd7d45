use Rattle.std.proofs.Common.{◌≡◌, ◌≤◌, List, ◌++◌, length, reverse}
use Rattle.std.specs.List.{All}
use Rattle.merge_sets.specs.declared.node.Entry.{Entry}
use Rattle.merge_conflicts.specs.declared.parts.Part.{Part}
use Rattle.merge_conflicts.specs.Reports.{Reports, postfix}
use Rattle.merge_conflicts.specs.Parts.{ArePartsOf, extent}
use Rattle.merge_conflicts.proofs.parts.parts_of.Given as goal

-- with the parts of what is left, those that are taken are all
abbrev pub invariant-loop-rest : goal.invariant-loop-rest
invariant-loop-rest l = record {
  parts : (rs : Reports Entry) → l.found ≡ postfix rs
      → (front : Reports Entry) × (l.left ≡ postfix front) × ((ps : List Part) → ArePartsOf front ps → ArePartsOf rs (ps ++ reverse l.parts.items));
  shorter : length l.left ≤ length l.found;
  within : All (λ p. extent p ≤ length l.found) l.parts.items;
}

abbrev pub decreases-loop-rest : goal.decreases-loop-rest
decreases-loop-rest l = length l.left
