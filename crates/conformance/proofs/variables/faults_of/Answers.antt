use Rattle.conformance.proofs.Told.{permuted_as, tells}
use Rattle.conformance.proofs.variables.faults_of.Goals as goal

-- the errors are the faults of the values
pub returns : goal.returns
returns g c =
    let (found, all, ordered) = c.in_ok-errors.ensures.faults in
    record {
      errors = c.as_slice.result.now;
      tells = tells _ _ _ c.as_slice.ensures.value c.in_ok-errors.ensures.sorted c.in_ok-text.ensures;
      found = found;
      all = all;
      ordered = permuted_as _ _ _ ordered c.as_slice.ensures.value;
    }
