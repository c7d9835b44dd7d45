use Rattle.std.proofs.Common.{Result, Ok, Err, OnErr, inr}
use Rattle.std.proofs.lemmas.Result.{IfOk-weaker}
use Rattle.events.specs.EventValue.{typed_event}
use Rattle.walk.proofs.Runs.{Stepped-pair}
use Rattle.walk.proofs.multi_visitor.MultiVisitorConsVisitor.on.Goals as goal

pub returns-clause-stepped : goal.returns-clause-stepped
returns-clause-stepped g c =
    IfOk-weaker c.on-2.result _ _ (λ _ t. Stepped-pair g.A.Machine.step g.B.Machine.step (typed_event c.args.event.now) _ _ _ _ _ c.in_ok-on.ensures.stepped t) c.on-2.ensures.stepped

on_err : {T E : Type 0} (r : Result T E) (P : Type 0) → P → OnErr r P
on_err (Ok v) P p = tt
on_err (Err e) P p = p

pub returns-clause-stops : goal.returns-clause-stops
returns-clause-stops g c = on_err c.on-2.result _ (inr (c.on.new.ctx, c.in_ok-on.ensures.stepped))
