use Rattle.std.proofs.lemmas.List.Sorted.{IsPermutation-trans}
use Rattle.std.proofs.lemmas.Result.{IfOk-weaker}
use Rattle.validation_examples.proofs.Fresh.{by_one}
use Rattle.validation_examples.proofs.told.told_by_one.Goals as goal

-- what was found is in the context
pub returns : goal.returns
returns g c =
    let (found, heard, reported) =
    by_one c.args.document.now _ c.args.schema.now _ c.in_ok-ctx.ensures g.V.Machine.step c.args.rule _ _ _ _ c.with-rules.ensures c.in_ok-visit.ensures.ran in
    IfOk-weaker c.lines.result _ _
    (λ told written. record {
      end = c.visit.new.v.0;
      found = found;
      heard = heard;
      errors = c.in_ok-into_errors.field-0.items;
      in_order = record { all = IsPermutation-trans _ _ _ reported c.in_ok-into_errors.ensures.all; sorted = c.in_ok-into_errors.ensures.sorted };
      written = written;
    })
    c.lines.ensures
