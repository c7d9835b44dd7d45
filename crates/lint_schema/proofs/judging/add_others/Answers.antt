use Rattle.std.proofs.Common.{refl, subst}
use Rattle.lint_schema.specs.Told.{HasFurther}
use Rattle.lint_schema.proofs.Located.{further_more}
use Rattle.lint_schema.proofs.judging.add_others.Goals as goal

-- one place more
pub loop-position-preserved : goal.loop-position-preserved
loop-position-preserved c =
    let added = subst (λ place. HasFurther c.args.sources.now place c.loop-position.fault c.add_further.new.fault) c.place_of-place.ensures c.in_ok-add_further.ensures in
    further_more c.args.sources.now c.args.joined.now c.args.others.now c.loop-position.position-index _ _ c.args.fault.now c.loop-position.fault c.add_further.new.fault c.loop-position-test.true refl c.loop-position.invariant added
