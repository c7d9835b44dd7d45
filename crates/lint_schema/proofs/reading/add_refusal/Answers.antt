use Rattle.std.proofs.lemmas.Result.{on_ok_weaker}
use Rattle.lint_schema.proofs.Telling.{told_some}
use Rattle.lint_schema.proofs.reading.add_refusal.Goals as goal

-- what was told is still there
pub returns : goal.returns
returns c =
    let told = told_some c.args.sources.now c.args.joined.now c.args.error.now c.args.faults.now.items c.add_schema_faults.new.faults.items c.in_ok-add_schema_faults.ensures in
    on_ok_weaker c.add_rest.result (λ stays. stays told) c.add_rest.ensures
