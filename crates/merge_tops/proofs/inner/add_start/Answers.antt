use Rattle.std.proofs.Common.{length}
use Rattle.std.proofs.lemmas.Result.{on_ok_weaker}
use Rattle.merge_tops.proofs.inner.add_start.Goals as goal

pub returns-then-is_start : goal.returns-then-is_start
returns-then-is_start g c = on_ok_weaker c.add_new.result (λ h. h (length c.args.graph.now.fragments.items) c.args.listed.now c.if-is_start.ensures) c.add_new.ensures
