use Rattle.std.proofs.Common.{IfOk, [], None, inl, inr, subst}
use Rattle.std.proofs.lemmas.Result.{IfOk-weaker}
use Rattle.lint_sources.specs.Faults.{IsFault}
use Rattle.lint_schema.proofs.faults.placed_fault.Goals as goal

-- without a place
pub returns-then-is_object_text : goal.returns-then-is_object_text
returns-then-is_object_text g c =
    let said = g.M.Display.output c.args.message.now in
    IfOk-weaker c.new.result _ _ (λ f h. inr h) (subst (λ path. IfOk c.new.result (IsFault path [] None said)) c.path_of.ensures c.new.ensures)

-- with its place
pub returns : goal.returns
returns g c = IfOk-weaker c.fault_in_line.result _ _ (λ f h. inl h) c.fault_in_line.ensures
