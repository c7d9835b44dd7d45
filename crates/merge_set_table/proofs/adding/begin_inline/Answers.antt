use Rattle.std.proofs.Common.{sym, ◌∙◌}
use Rattle.std.proofs.lemmas.Result.{on_ok_weaker}
use Rattle.merge_set_table.proofs.adding.begin_inline.Goals as goal

pub begin_lost-requires : goal.begin_lost-requires
begin_lost-requires g c = record { typed = c.type_entered-entered.ensures; lost = sym c.is_lost.ensures ∙ c.if-is_lost.true }

pub begin_inner-requires : goal.begin_inner-requires
begin_inner-requires g c = record { typed = c.type_entered-entered.ensures; lost = sym c.is_lost.ensures ∙ c.if-is_lost.false }

pub returns-else-is_lost : goal.returns-else-is_lost
returns-else-is_lost g c = on_ok_weaker c.begin_inner.result (λ h. h c.args.table.now) c.begin_inner.ensures
