-- What a report holds.
use Rattle.std.specs.Prelude.{◌≡◌, ◌==◌, Bool, true, false, ℕ, List, Option, Some, None, if◌then◌else◌, length}
use Rattle.std.specs.Prelude.{string_bytes, IsSorted}
use Rattle.std.specs.Io.KnownBytes.{Appends}
use Rattle.check_app.specs.Report.{report_text}
use Rattle.check_app.specs.declared.program.Mode.{Mode}
use Rattle.check_app.specs.declared.program.Mode.TheVariants as m
use Rattle.check_app.specs.declared.program.Task.{Task}
use Rattle.check_app.specs.declared.report.Report.{Report}
use Rattle.language.specs.declared.tree.Definition.{Definition}
use Rattle.rules_merge.specs.declared.overlapping_fields_can_be_merged.OverlappingFieldsCanBeMerged.{OverlappingFieldsCanBeMerged}
use Rattle.rules_merge.specs.OverlappingFieldsCanBeMerged.{MergeErrors}
use Rattle.schema.specs.Catalog.{Catalog}
use Rattle.validation.specs.RootRules.{IsRootReport}
use Rattle.validation.specs.Stages.{Rules}
use Rattle.walk.specs.ErrorValue.{ErrorValue, error_cmp}

-- a report on some errors in ascending order
pub record IsReport (report : Report) : Type 0 where
  pub errors : List ErrorValue
  pub pairs : Option ℕ
  pub sorted : IsSorted error_cmp errors
  pub text : string_bytes report.text ≡ report_text errors pairs
  pub is_clean : report.is_clean ≡ (length errors == 0)

-- the report on a document: its errors are what every rule reports of the document, that on introspection among them
-- where it is closed, and it tells how many pairs were compared
pub record IsReportOn {S C : Type 0} (rules : Rules S C) (closed : Bool) (schema : Catalog S C)
    (document : List (Definition S)) (report : Report) : Type 0 where
  pub is_report : IsReport report
  pub compared : ℕ
  pub all : IsRootReport rules 0 closed schema document is_report.errors compared
  pub pairs : is_report.pairs ≡ Some compared

-- the report on fields of a document that can't be merged, and on nothing else
pub record IsMergeReport {S C : Type 0} (E : S → S → Bool) (schema : Catalog S C) (document : List (Definition S))
    (report : Report) : Type 0 where
  pub is_report : IsReport report
  pub end : OverlappingFieldsCanBeMerged
  pub told : MergeErrors E schema document end is_report.errors
  pub pairs : is_report.pairs ≡ None

-- By what is known of all rules, and of which scalars are equal.
module _ {S C : Type 0} (rules : Rules S C) (E : S → S → Bool) where
  -- what a mode makes of a document: the report on it
  abbrev pub IsReportBy : Mode → Catalog S C → List (Definition S) → Report → Type 0
  IsReportBy m.Plain = IsReportOn rules false
  IsReportBy m.Closed = IsReportOn rules true
  IsReportBy m.Merge = IsMergeReport E

  -- the report on a document, by a schema
  abbrev pub IsReportOnSome : Mode → Report → Type 0
  IsReportOnSome mode report = (schema : Catalog S C) × (document : List (Definition S)) × IsReportBy mode schema document report

  -- the report that the task asks for, if one is asked for
  abbrev pub IsReportAsked : Option Task → Report → Type 0
  IsReportAsked asked report = (task : Task) × (asked ≡ Some task) × IsReportOnSome task.mode report

  -- it was written, and the status says whether it has errors
  pub record TellsReport (asked : Option Task) (old new : Option (List ℕ)) (status : ℕ) : Type 0 where
    pub report : Report
    pub is_asked : IsReportAsked asked report
    pub written : Appends old new (string_bytes report.text)
    pub status_is : status ≡ (if report.is_clean then 0 else 1)
