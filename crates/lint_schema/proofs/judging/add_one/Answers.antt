use Rattle.std.proofs.Common.{subst}
use Rattle.lint_schema.specs.Told.{HasAllFurther}
use Rattle.lint_schema.proofs.judging.add_one.Goals as goal

pub returns : goal.returns
returns c = record {
  fault = c.add_others.new.fault;
  told = record { first = c.in_ok-fault.fault; is_first = c.in_ok-fault.ensures; further = subst (λ others. HasAllFurther c.args.sources.now c.args.joined.now others c.in_ok-fault.fault c.add_others.new.fault) c.as_slice.ensures.value c.in_ok-add_others.ensures };
  all = c.in_ok-push.ensures.items;
}
