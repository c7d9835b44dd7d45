use Rattle.std.proofs.Common.{take}
use Rattle.merge_certificates.specs.Quiet.{HoldBelow}
use Rattle.merge_certificates.proofs.unions.sets_below.Given as goal

abbrev pub invariant-loop-field : goal.invariant-loop-field
invariant-loop-field l = HoldBelow l.sets.items (take l.field-index l.fields)
