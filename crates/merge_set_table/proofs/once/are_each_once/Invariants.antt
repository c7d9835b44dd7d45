use Rattle.std.proofs.Common.{take}
use Rattle.merge_set_table.specs.Once.{IsEachOnce}
use Rattle.merge_set_table.proofs.once.are_each_once.Given as goal

abbrev pub invariant-loop-place : goal.invariant-loop-place
invariant-loop-place l = IsEachOnce (take l.place l.numbers) (take l.place l.numbers)
