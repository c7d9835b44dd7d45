use Rattle.std.proofs.Common.{◌≡◌, [], ◌∷◌, ap, inl, inr, refl, subst, sym, ◌∙◌}
use Rattle.std.proofs.lemmas.Result.{IfOk-weaker}
use Rattle.language_types.specs.Types.{printed, shape}
use Rattle.walk.specs.ContextState.{with_errors}
use Rattle.walk.proofs.Kept.{full_stays, with_none}
use Rattle.rules_positions.proofs.Giving.{false_true}
use Rattle.rules_positions.specs.VariablesInAllowedPosition.{position_message}
use Rattle.rules_specified_uses.specs.ValueUses.{use_value}
use Rattle.rules_specified_positions.specs.Usages.{IsAllowed, usage_error}
use Rattle.rules_specified_positions.proofs.judging.ByDefaultsJudgePlacedUse.judge.Goals as goal

pub returns-then-is_allowed-clause-ok : goal.returns-then-is_allowed-clause-ok
returns-then-is_allowed-clause-ok g c =
    let w = c.args.ctx.now in
    let u = use_value c.args.found.now in
    let stands = subst (λ z. IsAllowed z.types c.args.entry.now.1 u.at) (ap (λ k. k.schema) c.ctx.view_is) (c.is_allowed.ensures.0 c.if-is_allowed.true) in
    ([], inl (stands, refl), with_none w)

-- no more errors are kept
pub returns-then-is_full-clause-ok : goal.returns-then-is_full-clause-ok
returns-then-is_full-clause-ok g c =
    let w = c.args.ctx.now in
    let u = use_value c.args.found.now in
    let d = c.args.entry.now in
    let not_allowed : IsAllowed w.schema.types d.1 u.at → ⊥ = λ stands.
    false_true (sym c.if-is_allowed.false ∙ c.is_allowed.ensures.1 (subst (λ z. IsAllowed z.types d.1 u.at) (sym (ap (λ k. k.schema) c.ctx.view_is)) stands))
    in
    let es = usage_error d u ∷ [] in
    (es, inr (not_allowed, refl), full_stays w es _ c.is_full.ensures c.if-is_full.true)

pub returns-clause-ok : goal.returns-clause-ok
returns-clause-ok g c =
    let w = c.args.ctx.now in
    let u = use_value c.args.found.now in
    let d = c.args.entry.now in
    let said : c.as_str.result.now ≡ position_message u.variable (printed (shape d.1.var_type.item)) (printed u.at.expected) =
    c.as_str.ensures.value ∙ c.in_ok-message.ensures ∙ ap (λ z. position_message u.variable (printed z) (printed u.at.expected)) c.as_borrowed-written.ensures
    in
    let not_allowed : IsAllowed w.schema.types d.1 u.at → ⊥ = λ stands.
    false_true (sym c.if-is_allowed.false ∙ c.is_allowed.ensures.1 (subst (λ z. IsAllowed z.types d.1 u.at) (sym (ap (λ k. k.schema) c.ctx.view_is)) stands))
    in
    IfOk-weaker c.report_error.result _ _
    (λ _ e. (
      usage_error d u ∷ [],
      inr (not_allowed, refl),
      e ∙ ap (λ m. with_errors w (record { locations = d.0.span.start ∷ u.place ∷ []; message = m } ∷ [])) said,
    ))
    c.report_error.ensures.ok
