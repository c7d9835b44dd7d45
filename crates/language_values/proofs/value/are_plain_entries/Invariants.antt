use Rattle.std.proofs.Common.{◌≡◌, drop}
use Rattle.std.specs.List.{list_all}
use Rattle.language_values.specs.Values.{is_plain}
use Rattle.language_values.proofs.value.are_plain_entries.Given as goal

-- the answer is that for those that are left
abbrev pub invariant-loop-v : goal.invariant-loop-v
invariant-loop-v g l = list_all (λ e. is_plain e.1.item) l.entries ≡ list_all (λ e. is_plain e.1.item) (drop l.v-index l.entries)
