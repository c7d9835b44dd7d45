use Rattle.std.proofs.Common.{◌≡◌, drop}
use Rattle.language.specs.Pairs.{first_of_name}
use Rattle.language.proofs.tree.find_named.Given as goal

abbrev pub invariant-loop-key : goal.invariant-loop-key
invariant-loop-key g l = first_of_name l.name l.pairs ≡ first_of_name l.name (drop l.key-index l.pairs)
