use Rattle.std.proofs.Common.{◌∙◌, ap, sym}
use Rattle.std.proofs.lemmas.Result.{IfOk-weaker}
use Rattle.schema.specs.declared.model.dialect.Dialect.TheVariants as d
use Rattle.validation.proofs.ByDialect.{told_by}
use Rattle.validation.proofs.dialects.visit_dialect_rules.Goals as goal

pub returns-in-Juniper-clause-appended : goal.returns-in-Juniper-clause-appended
returns-in-Juniper-clause-appended g c =
    IfOk-weaker c.visit_all_rules.result _ _
    (λ pairs told. told_by _ _ d.Juniper c.args.ctx.now.schema.dialect c.args.document.now (sym c.in-Juniper.is ∙ c.dialect.ensures ∙ ap (λ w. w.schema.dialect) c.ctx.view_is) c.args.ctx.now c.visit_all_rules.new.ctx pairs told)
    c.visit_all_rules.ensures.appended

pub returns-in-October2021-clause-appended : goal.returns-in-October2021-clause-appended
returns-in-October2021-clause-appended g c =
    IfOk-weaker c.visit_specified_rules.result _ _
    (λ pairs told. told_by _ _ d.October2021 c.args.ctx.now.schema.dialect c.args.document.now (sym c.in-October2021.is ∙ c.dialect.ensures ∙ ap (λ w. w.schema.dialect) c.ctx.view_is) c.args.ctx.now c.visit_specified_rules.new.ctx pairs told)
    c.visit_specified_rules.ensures.appended
