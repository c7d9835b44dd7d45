use Rattle.std.proofs.lemmas.Result.{on_ok_weaker}
use Rattle.lint_schema.proofs.Telling.{told_some}
use Rattle.lint_schema.proofs.reading.add_unread.Goals as goal

-- an error has a fault at least
pub returns : goal.returns
returns c =
    on_ok_weaker c.add_schema_faults.result (λ h. told_some c.args.sources.now c.args.joined.now c.args.error.now _ _ h) c.add_schema_faults.ensures
