use Rattle.std.proofs.Common.{None, refl, sym, subst, IsSorted}
use Rattle.validation.proofs.Reports.{merging_told}
use Rattle.check_app.proofs.Reports.{permuted_as}
use Rattle.walk.specs.ErrorValue.{error_cmp}
use Rattle.check_app.proofs.report.Report.on_merging.Goals as goal

-- the errors are those of the context
pub returns : goal.returns
returns g c = record {
  is_report = record {
    errors = c.as_slice.result.now;
    pairs = None;
    sorted = subst (IsSorted error_cmp) (sym c.as_slice.ensures.value) c.in_ok-errors.ensures.sorted;
    text = c.in_ok-report.ensures.text;
    is_clean = c.in_ok-report.ensures.is_clean;
  };
  end = c.visit_rules.new.rules.0;
  told = merging_told _ c.args.document.now _ c.args.schema.now _ _ _ _ c.in_ok-ctx.ensures c.in_ok-visit_rules.ensures.appended (permuted_as _ _ _ c.in_ok-errors.ensures.all c.as_slice.ensures.value);
  pairs = refl;
}
