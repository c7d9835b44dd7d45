use Rattle.conformance.proofs.Told.{permuted_as, tells}
use Rattle.validation.proofs.Reports.{merging_told}
use Rattle.conformance.proofs.judge.conflicts_of.Goals as goal

-- the errors are those of the context
pub returns : goal.returns
returns g c = record {
  errors = c.as_slice.result.now;
  tells = tells _ _ _ c.as_slice.ensures.value c.in_ok-errors.ensures.sorted c.in_ok-text.ensures;
  end = c.visit_rules.new.rules.0;
  all = merging_told _ c.args.document.now _ c.args.schema.now _ _ _ _ c.in_ok-ctx.ensures c.in_ok-visit_rules.ensures.appended (permuted_as _ _ _ c.in_ok-errors.ensures.all c.as_slice.ensures.value);
}
