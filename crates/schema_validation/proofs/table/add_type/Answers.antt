use Rattle.std.proofs.Common.{cond, Some, None, is_some, ap, sym, ◌∙◌}
use Rattle.schema_validation.proofs.TableLemmas.{has-more, has-unnamed, again-found}
use Rattle.schema_validation.proofs.table.add_type.Goals as goal

pub returns-in_default-clause-added : goal.returns-in_default-clause-added
returns-in_default-clause-added g c = λ ts has. has-unnamed ts c.args.map.now c.args.meta.now c.in_default.ensures has

pub returns-in-Some-earlier-clause-earlier : goal.returns-in-Some-earlier-clause-earlier
returns-in-Some-earlier-clause-earlier g c = λ ts has.
    let key = c.in-Some.name.now in
    sym (again-found ts c.args.map.now c.args.meta.now key c.in-Some.ensures has ∙ ap (λ o. cond (is_some o) (Some key) None) (sym c.in_ok-earlier.ensures.earlier ∙ c.in-Some-earlier.is))

pub returns-in-Some-earlier-clause-added : goal.returns-in-Some-earlier-clause-added
returns-in-Some-earlier-clause-added g c = λ ts has.
    has-more ts c.args.map.now c.note.new.self c.args.meta c.in-Some.name.now c.in-Some.ensures has c.in_ok-earlier.ensures.noted

pub returns-in-None-clause-earlier : goal.returns-in-None-clause-earlier
returns-in-None-clause-earlier g c = λ ts has.
    let key = c.in-Some.name.now in
    sym (again-found ts c.args.map.now c.args.meta.now key c.in-Some.ensures has ∙ ap (λ o. cond (is_some o) (Some key) None) (sym c.in_ok-earlier.ensures.earlier ∙ c.in-None.is))

pub returns-in-None-clause-added : goal.returns-in-None-clause-added
returns-in-None-clause-added g c = λ ts has.
    has-more ts c.args.map.now c.note.new.self c.args.meta c.in-Some.name.now c.in-Some.ensures has c.in_ok-earlier.ensures.noted
