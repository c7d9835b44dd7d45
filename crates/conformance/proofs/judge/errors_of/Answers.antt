use Rattle.conformance.proofs.Told.{permuted_as, tells}
use Rattle.conformance.proofs.judge.errors_of.Goals as goal

-- the errors are those that the root node reports
pub returns : goal.returns
returns g c =
    let (compared, all) = c.in_ok-errors.ensures.all in
    record {
      errors = c.as_slice.result.now;
      tells = tells _ _ _ c.as_slice.ensures.value c.in_ok-errors.ensures.sorted c.in_ok-text.ensures;
      compared = compared;
      all = record { report = all.report; reported = all.reported; kept = permuted_as _ _ _ all.kept c.as_slice.ensures.value };
    }
