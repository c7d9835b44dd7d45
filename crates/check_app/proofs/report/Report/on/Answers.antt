use Rattle.std.proofs.Common.{Some, refl, sym, subst, IsSorted}
use Rattle.validation.proofs.Reports.{told_all}
use Rattle.check_app.proofs.Reports.{permuted_as}
use Rattle.walk.specs.ErrorValue.{error_cmp}
use Rattle.check_app.proofs.report.Report.on.Goals as goal

-- the errors are those of the context
pub returns : goal.returns
returns g c = record {
  is_report = record {
    errors = c.as_slice.result.now;
    pairs = Some c.in_ok-compared.compared;
    sorted = subst (IsSorted error_cmp) (sym c.as_slice.ensures.value) c.in_ok-errors.ensures.sorted;
    text = c.in_ok-report.ensures.text;
    is_clean = c.in_ok-report.ensures.is_clean;
  };
  compared = c.in_ok-compared.compared;
  all = told_all _ c.args.document.now _ _ c.args.schema.now _ _ _ _ c.in_ok-ctx.ensures c.in_ok-compared.ensures.appended (permuted_as _ _ _ c.in_ok-errors.ensures.all c.as_slice.ensures.value);
  pairs = refl;
}
