use Rattle.std.proofs.Common.{take}
use Rattle.variable_usages.specs.InReachUses.{AllUses}
use Rattle.variable_usages.proofs.uses.all_uses.Given as goal

abbrev pub invariant-loop-definition : goal.invariant-loop-definition
invariant-loop-definition g l = AllUses (take l.definition-index l.document) l.all.items
