use Rattle.std.proofs.Common.{◌++◌, ◌∷◌, [], take, drop, sym, ap, ◌∙◌, subst}
use Rattle.merge_conflicts.proofs.Ends.{none_of_empty, last_direct, last_nested, EndsFor}
use Rattle.merge_conflicts.proofs.parts.last_part.Goals as goal

pub returns-in_default-clause-last : goal.returns-in_default-clause-last
returns-in_default-clause-last c rs h = none_of_empty rs c.args.found.now c.in_default.ensures.cases h

pub returns-in-Direct-clause-last : goal.returns-in-Direct-clause-last
returns-in-Direct-clause-last c rs h =
    subst (EndsFor rs c.in-Some.before.now) (sym c.made_part.ensures)
    (last_direct rs _ c.in-Direct.a c.in-Direct.b c.in-Direct.flag (ap (λ x. c.in-Some.before.now ++ x ∷ []) (sym c.in-Direct.is) ∙ sym c.in-Some.ensures.cases.0 ∙ h))

pub returns-in-Nested-clause-last : goal.returns-in-Nested-clause-last
returns-in-Nested-clause-last c rs h =
    subst (EndsFor rs c.split_at.result.0.now) (sym c.made_part-in-Nested.ensures)
    (last_nested rs c.in-Some.before.now c.in-Nested.a c.in-Nested.b c.in-Nested.count _ c.split_at.result.1
    (ap (λ x. c.in-Some.before.now ++ x ∷ []) (sym c.in-Nested.is) ∙ sym c.in-Some.ensures.cases.0 ∙ h)
    (c.split_at.ensures.front ∙ ap (λ n. take n c.in-Some.before.now) c.saturating_sub.ensures)
    (c.split_at.ensures.back ∙ ap (λ n. drop n c.in-Some.before.now) c.saturating_sub.ensures))
