use Rattle.std.proofs.lemmas.Result.{on_ok_weaker}
use Rattle.lint_schema.proofs.Located.{rest_stays}
use Rattle.lint_schema.proofs.reading.add_rest.Goals as goal

-- what was told is still there
pub returns-in-Ok : goal.returns-in-Ok
returns-in-Ok c =
    on_ok_weaker c.add_untouched.result (λ h told. rest_stays c.args.sources.now c.args.joined.now _ _ c.args.error.now _ _ h told) c.add_untouched.ensures
