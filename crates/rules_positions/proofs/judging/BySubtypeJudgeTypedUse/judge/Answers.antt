use Rattle.std.proofs.Common.{◌≡◌, [], ◌∷◌, ap, inl, inr, refl, subst, sym, ◌∙◌}
use Rattle.std.proofs.lemmas.Result.{IfOk-weaker}
use Rattle.language_types.specs.Types.{borrowed_shape, printed}
use Rattle.schema.specs.Subtype.{IsSubtype}
use Rattle.walk.specs.ContextState.{with_errors}
use Rattle.walk.proofs.Kept.{full_stays, with_none}
use Rattle.rules_positions.specs.TypedUses.{use_value}
use Rattle.rules_positions.specs.VariablesInAllowedPosition.{position_error, position_message, type_in_use}
use Rattle.rules_positions.proofs.Giving.{false_true}
use Rattle.rules_positions.proofs.judging.BySubtypeJudgeTypedUse.judge.Goals as goal

pub returns-then-below-clause-ok : goal.returns-then-below-clause-ok
returns-then-below-clause-ok g c =
    let w = c.args.ctx.now in
    let expected = borrowed_shape c.args.found.now.expected in
    let stands = subst (λ z. IsSubtype z.types (type_in_use c.args.entry.now.1) expected) (ap (λ k. k.schema) c.ctx.view_is) (c.in_ok-below.ensures.0 c.if-below.true) in
    ([], inl (stands, refl), with_none w)

-- no more errors are kept
pub returns-then-is_full-clause-ok : goal.returns-then-is_full-clause-ok
returns-then-is_full-clause-ok g c =
    let w = c.args.ctx.now in
    let types = w.schema.types in
    let u = use_value c.args.found.now in
    let t = type_in_use c.args.entry.now.1 in
    let not_below : IsSubtype types t u.expected → ⊥ = λ stands.
    false_true (sym c.if-below.false ∙ c.in_ok-below.ensures.1 (subst (λ z. IsSubtype z.types t u.expected) (sym (ap (λ k. k.schema) c.ctx.view_is)) stands))
    in
    let es = position_error c.args.entry.now u ∷ [] in
    (es, inr (not_below, refl), full_stays w es _ c.is_full.ensures c.if-is_full.true)

pub returns-clause-ok : goal.returns-clause-ok
returns-clause-ok g c =
    let w = c.args.ctx.now in
    let types = w.schema.types in
    let u = use_value c.args.found.now in
    let t = type_in_use c.args.entry.now.1 in
    let said : c.as_str.result.now ≡ position_message u.variable (printed t) (printed u.expected) =
    c.as_str.ensures.value ∙ c.in_ok-message.ensures ∙ ap (λ z. position_message u.variable (printed z) (printed u.expected)) (c.as_borrowed.ensures ∙ c.in_ok-t.ensures)
    in
    let not_below : IsSubtype types t u.expected → ⊥ = λ stands.
    false_true (sym c.if-below.false ∙ c.in_ok-below.ensures.1 (subst (λ z. IsSubtype z.types t u.expected) (sym (ap (λ k. k.schema) c.ctx.view_is)) stands))
    in
    IfOk-weaker c.report_error.result _ _
    (λ _ e. (
      position_error c.args.entry.now u ∷ [],
      inr (not_below, refl),
      e ∙ ap (λ m. with_errors w (record { locations = c.args.entry.now.0.span.start ∷ u.place ∷ []; message = m } ∷ [])) said,
    ))
    c.report_error.ensures.ok
