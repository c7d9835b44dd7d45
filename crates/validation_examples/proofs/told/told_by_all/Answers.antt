use Rattle.std.proofs.Common.{◌++◌, ◌∙◌, ap}
use Rattle.std.specs.Fmt.{decimal}
use Rattle.validation_examples.proofs.Fresh.{by_all}
use Rattle.validation_examples.proofs.told.told_by_all.Goals as goal

-- what was found is in the context
pub returns : goal.returns
returns g c = record {
  found = c.visit_all_rules.new.ctx.errors;
  compared = c.in_ok-compared.compared;
  reported = by_all c.args.document.now _ c.args.schema.now _ c.in_ok-ctx.ensures _ _ _ c.in_ok-compared.ensures.appended;
  errors = c.in_ok-into_errors.field-0.items;
  in_order = record { all = c.in_ok-into_errors.ensures.all; sorted = c.in_ok-into_errors.ensures.sorted };
  written = c.in_ok-write.ensures.bytes ∙ ap (λ lines. lines ++ decimal c.in_ok-compared.compared) c.in_ok-told.ensures;
}
