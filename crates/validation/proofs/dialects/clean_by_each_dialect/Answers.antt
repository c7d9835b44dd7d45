use Rattle.schema.specs.declared.model.dialect.Dialect.{Dialect}
use Rattle.schema.specs.declared.model.dialect.Dialect.TheVariants as d
use Rattle.rules_first_stage.specs.CleanStage.{IsCleanWhere}
use Rattle.validation.specs.Dialects.{by_dialect}
use Rattle.validation.specs.Stages.{Rules}
use Rattle.validation.proofs.dialects.clean_by_each_dialect.Goals as goal

-- what holds of the rules of both dialects holds of those of each
each : {S C : Type 0} (of_juniper of_october : Rules S C) (dialect : Dialect) → IsCleanWhere of_juniper.first_stage.find_nothing
    → IsCleanWhere of_october.first_stage.find_nothing → IsCleanWhere (by_dialect of_juniper of_october dialect).first_stage.find_nothing
each of_juniper of_october d.Juniper j o = j
each of_juniper of_october d.October2021 j o = o

pub returns : goal.returns
returns g c = λ dialect. each _ _ dialect c.clean_documents.ensures c.clean_documents-2.ensures
