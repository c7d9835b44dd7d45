use Rattle.std.proofs.Common.{take}
use Rattle.merge_set_table.specs.Once.{IsEachOnce}
use Rattle.merge_set_table.proofs.OnceLaws.{HaveBits}
use Rattle.merge_set_table.proofs.once.copied_once.Given as goal

abbrev pub invariant-loop-number : goal.invariant-loop-number
invariant-loop-number l = IsEachOnce (take l.number-index l.numbers) l.once.items × HaveBits l.seen l.once.items
