use Rattle.std.proofs.Common.{◌≡◌, drop, map}
use Rattle.merge_sets.specs.declared.node.Entry.{Entry}
use Rattle.merge_field_pairs.specs.Entries.{plain}
use Rattle.merge_conflicts.specs.Reports.{Reports, postfix, AreReportsOf}
use Rattle.merge_conflicts.specs.Texts.{errors_of}
use Rattle.walk.specs.ContextState.{with_errors}
use Rattle.walk.specs.Step.{KeepsPlace}
use Rattle.rules_merge.specs.OverlappingFieldsCanBeMerged.{error_value}
use Rattle.rules_merge.proofs.Reporting.{Ends}
use Rattle.rules_merge.proofs.overlapping_fields_can_be_merged.report_conflicts.Given as goal

-- with the errors of the parts that are left, the context has those of all
abbrev pub invariant-loop-part : goal.invariant-loop-part
invariant-loop-part g l = record {
  told : (rs : Reports Entry) (ts : Reports _) → l.found.found.items ≡ postfix rs
      → AreReportsOf (map plain l.found.fields.items) rs ts
      → Ends g.S.PartialEq.eq l.fn.ctx.schema (map plain l.found.fields.items)
      (with_errors l.fn.ctx (map error_value (errors_of g.S.PartialEq.eq l.fn.ctx.schema ts))) (drop l.part-index l.part-items) l.ctx;
  place : KeepsPlace l.fn.ctx l.ctx;
}
