use Rattle.std.proofs.Common.{◌≡◌, [], Some, None, IfOk, option_copied, ap, refl, subst, sym, ◌∙◌}
use Rattle.walk.specs.Rule.{Appended}
use Rattle.walk.proofs.Kept.{with_none}
use Rattle.rules_positions.specs.FirstVariables.{kept_first}
use Rattle.rules_positions.specs.JudgedUses.{JudgedIfDefined}
use Rattle.rules_positions.proofs.judged_uses.report_use.Goals as goal

pub returns-in-Some-clause-ok : goal.returns-in-Some-clause-ok
returns-in-Some-clause-ok g c =
    let w = c.args.ctx.now in
    let u = g.J.Judge.value c.args.found.now in
    let known = kept_first c.args.variables.now in
    let is : Some c.in-Some.entry.now ≡ known (g.J.Judge.variable_of u) =
    sym (ap option_copied c.in-Some.is) ∙ c.get.ensures ∙ ap known c.variable.ensures
    in
    subst (λ o. IfOk c.judge.result (λ _. Appended (JudgedIfDefined g.J.Judge.judged w.schema.types o u) w c.judge.new.ctx)) is c.judge.ensures.ok

-- a variable that is not defined gives nothing
pub returns-in-None-clause-ok : goal.returns-in-None-clause-ok
returns-in-None-clause-ok g c =
    let w = c.args.ctx.now in
    let u = g.J.Judge.value c.args.found.now in
    let known = kept_first c.args.variables.now in
    let is : None ≡ known (g.J.Judge.variable_of u) =
    sym (ap option_copied c.in-None.is) ∙ c.get.ensures ∙ ap known c.variable.ensures
    in
    subst (λ o. Appended (JudgedIfDefined g.J.Judge.judged w.schema.types o u) w w) is ([], refl, with_none w)
