-- The errors of a report.
use Rattle.std.proofs.Common.{◌≡◌, Bool, List, IsPermutation, subst, sym}
use Rattle.check_app.specs.Told.{IsReportBy}
use Rattle.check_app.specs.declared.program.Mode.{Mode}
use Rattle.check_app.specs.declared.report.Report.{Report}
use Rattle.language.specs.declared.tree.Definition.{Definition}
use Rattle.schema.specs.Catalog.{Catalog}
use Rattle.validation.specs.Stages.{Rules}

-- the same list, where it is seen otherwise
pub permuted_as : {X : Type 0} (xs ys zs : List X) → IsPermutation xs ys → zs ≡ ys → IsPermutation xs zs
permuted_as xs ys zs p e = subst (λ l. IsPermutation xs l) (sym e) p

-- what a mode makes of a document, where the mode is known
pub by_mode : {S C : Type 0} (rules : Rules S C) (E : S → S → Bool) (asked mode : Mode) (schema : Catalog S C) (document : List (Definition S)) (report : Report)
    → asked ≡ mode → IsReportBy rules E mode schema document report → IsReportBy rules E asked schema document report
by_mode rules E asked mode schema document report is h = subst (λ m. IsReportBy rules E m schema document report) (sym is) h
