use Rattle.std.proofs.Common.{refl, inl, inr}
use Rattle.merge_tops.proofs.top.add_unmarked.Goals as goal

pub returns-then-is_plain : goal.returns-then-is_plain
returns-then-is_plain g c = inr (refl, c.if-is_plain.ensures.plain)

pub returns : goal.returns
returns g c = inl c.in_ok-push.ensures.items
