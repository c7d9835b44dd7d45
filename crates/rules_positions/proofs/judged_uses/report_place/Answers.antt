use Rattle.std.proofs.Common.{◌≡◌, [], map, ap, None, slice_get, subst, sym, ◌∙◌, option_map}
use Rattle.std.proofs.lemmas.Option.{slice_get-map, slice_get_past}
use Rattle.std.specs.Option.{unwrap_or}
use Rattle.walk.specs.Rule.{Appended}
use Rattle.rules_positions.specs.FirstVariables.{kept_first}
use Rattle.rules_positions.specs.JudgedUses.{JudgedIfDefined, UsesGive, values_in}
use Rattle.rules_positions.proofs.Giving.{appended_none}
use Rattle.rules_positions.proofs.judged_uses.report_place.Goals as goal

-- where there is no definition there is no use
pub returns-in-None-clause-ok : goal.returns-in-None-clause-ok
returns-in-None-clause-ok g c =
    let w = c.args.ctx.now in
    let known = kept_first c.args.variables.now in
    let lists = c.args.uses.now in
    let past : slice_get (values_in g.J.Judge.value lists) c.args.place ≡ None =
    slice_get-map (λ us. map g.J.Judge.value us.items) lists c.args.place ∙ ap (option_map (λ us. map g.J.Judge.value us.items)) (slice_get_past lists c.args.place c.in-None.ensures.lookup.3)
    in
    subst (λ o. Appended (UsesGive g.J.Judge.variable_of g.J.Judge.judged w.schema.types known (unwrap_or o [])) w w) (sym past) (appended_none (λ types v fs. JudgedIfDefined g.J.Judge.judged types (known (g.J.Judge.variable_of v)) v fs) w)
