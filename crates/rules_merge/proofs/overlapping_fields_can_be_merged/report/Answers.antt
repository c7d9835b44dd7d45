use Rattle.std.proofs.Common.{◌∷◌, []}
use Rattle.walk.proofs.Kept.{full_stays}
use Rattle.merge_conflicts.specs.Texts.{error_of}
use Rattle.rules_merge.specs.OverlappingFieldsCanBeMerged.{error_value}
use Rattle.rules_merge.proofs.overlapping_fields_can_be_merged.report.Goals as goal

pub returns-then-is_full-clause-ok : goal.returns-then-is_full-clause-ok
returns-then-is_full-clause-ok g c = λ t told.
    full_stays c.args.ctx.now (error_value (error_of t) ∷ []) _ c.is_full.ensures c.if-is_full.true
