use Rattle.std.proofs.Common.{take}
use Rattle.std.specs.List.{All, Contains}
use Rattle.merge_certificates.specs.Unions.{under_object}
use Rattle.merge_certificates.proofs.unions.by_objects.Given as goal

abbrev pub invariant-loop-field : goal.invariant-loop-field
invariant-loop-field g l = All (λ a. Contains l.entries.items (under_object (g.J.Judge.objects l.graph.judge) a)) (take l.field-index l.fields)
