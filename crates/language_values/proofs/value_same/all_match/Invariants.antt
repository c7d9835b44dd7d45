use Rattle.std.proofs.Common.{◌≡◌}
use Rattle.std.specs.List.{list_all}
use Rattle.language_values.specs.ValuesSame.{is_match}
use Rattle.language_values.proofs.value_same.all_match.Given as goal

-- what waits answers for the first
abbrev pub invariant-loop : goal.invariant-loop
invariant-loop g l = list_all (is_match g.S.PartialEq.eq) l.waiting.items ≡ is_match g.S.PartialEq.eq l.first
