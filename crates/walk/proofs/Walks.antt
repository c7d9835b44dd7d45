-- Runs through the events of a document.
use Rattle.std.proofs.Common.{◌≡◌, List, [], ◌∷◌, ◌++◌, refl, ap, sym, ◌∙◌, subst, append_assoc, Result, IfOk}
use Rattle.std.proofs.lemmas.List.{append-nil}
use Rattle.language.specs.declared.tree.Definition.{Definition}
use Rattle.schema.specs.Catalog.{Catalog}
use Rattle.events.specs.Typing.{Typing}
use Rattle.events.specs.Node
use Rattle.walk.specs.ContextState.{ContextState, DocumentScope, scope_of_context, typing}
use Rattle.walk.specs.ErrorValue.{ErrorValue}
use Rattle.walk.specs.Pair.{pair_step, no_step}
use Rattle.walk.specs.Rule.{Allowance, AllowsFrom, WalksAppend, of_newest}
use Rattle.walk.specs.declared.multi_visitor.MultiVisitorCons.{MultiVisitorCons}
use Rattle.walk.specs.declared.multi_visitor.MultiVisitorNil.{MultiVisitorNil}
use Rattle.events.specs.Outline.{each, outline_of_definition}
use Rattle.events.specs.TypedEvent.{TypedEvent, entering, leaving, events_of, typed_events}
use Rattle.walk.specs.Step.{StepOf, Run, Stepped, Ran}
use Rattle.walk.proofs.Runs.{Ran-append, Ran-none, Ran-one}

module _ {S C V : Type 0} (step : StepOf S C V) where
  -- a run through the first of these events, where those are left
  abbrev pub RanUpTo : List (TypedEvent S C) → List (TypedEvent S C) → V → V → ContextState S C → ContextState S C → Type 0
  RanUpTo all left a b w w' = (told : List (TypedEvent S C)) × Ran step told a b w w' × (all ≡ told ++ left)

  pub up_to_none : (all : List (TypedEvent S C)) (a : V) (w : ContextState S C) → RanUpTo all all a a w w
  up_to_none all a w = ([], Ran-none step a w, refl)

  pub up_to_next : (all left left' : List (TypedEvent S C)) (m : TypedEvent S C) (a b c : V) (w w₁ w₂ w₃ : ContextState S C) → RanUpTo all left a b w w₁ → left ≡ m ∷ left' → w₂ ≡ w₁ → Stepped step m b c w₂ w₃ → RanUpTo all left' a c w w₃
  up_to_next all left left' m a b c w w₁ w₂ w₃ (told, r, e) q same s =
      let s' : Stepped step m b c w₁ w₃ = subst (λ z. Stepped step m b c z w₃) same s in
      (told ++ m ∷ [], Ran-append step told (m ∷ []) a b c w w₁ w₃ r (Ran-one step m b c w₁ w₃ s'), e ∙ ap (λ z. told ++ z) q ∙ sym (append_assoc told (m ∷ []) left'))

  -- a run through the same events
  pub IfOk-ran : {T E : Type 0} (ms ms' : List (TypedEvent S C)) (a b : V) (w w' : ContextState S C) (r : Result T E) → ms ≡ ms' → IfOk r (λ _. Ran step ms a b w w') → IfOk r (λ _. Ran step ms' a b w w')
  IfOk-ran ms ms' a b w w' r e h = subst (λ z. IfOk r (λ _. Ran step z a b w w')) e h

  -- a document is entered, then come its definitions, and then it is left
  pub Ran-document : (doc : List (Definition S)) (t t' : Typing S C) (a b c d : V) (w w₁ w₂ w₃ : ContextState S C) → t ≡ t'
      → Stepped step (record { side = entering; node = Node.document doc; types = t }) a b w w₁
      → Ran step (events_of (each (outline_of_definition w₁.schema t) doc)) b c w₁ w₂
      → Stepped step (record { side = leaving; node = Node.document doc; types = t }) c d w₂ w₃
      → Ran step (typed_events w.schema t' doc) a d w w₃
  Ran-document doc t t' a b c d w w₁ w₂ w₃ e s r u =
      let enter : TypedEvent S C = record { side = entering; node = Node.document doc; types = t } in
      let leave : TypedEvent S C = record { side = leaving; node = Node.document doc; types = t } in
      let inner : Catalog S C → List (TypedEvent S C) = λ k. events_of (each (outline_of_definition k t) doc) in
      let same : w₁.schema ≡ w.schema = ap (λ z. z.schema) s.2 in
      let r' = Ran-append step (inner w₁.schema) (leave ∷ []) b c d w₁ w₂ w₃ r (Ran-one step leave c d w₂ w₃ u) in
      let whole = Ran-append step (enter ∷ []) (inner w₁.schema ++ leave ∷ []) a b d w w₁ w₃ (Ran-one step enter a b w w₁ s) r' in
      subst (λ z. Ran step (typed_events w.schema z doc) a d w w₃) e (subst (λ k. Ran step (enter ∷ (inner k ++ leave ∷ [])) a d w w₃) same whole)

-- fresh rules append what they are allowed
pub fresh_append : {S C V : Type 0} (step : StepOf S C V) (fresh : V → Type 0) (allows : V → Allowance S C) → AllowsFrom step fresh allows → WalksAppend step fresh allows
fresh_append step fresh allows keeps a b w w' doc f known (es, r, e) =
    let r' = subst (λ k. Run (step (record { schema = w.schema; known = k })) (typed_events w.schema (typing w) doc) a b es) known r in
    (es, keeps a f w.schema (typing w) doc b es r', e)

-- a visitor with no other in its list runs by itself
alone_runs : {S C V : Type 0} (step : StepOf S C V) (scope : DocumentScope S C) (ms : List (TypedEvent S C)) (a b : MultiVisitorCons V MultiVisitorNil) (es : List ErrorValue) → Run (pair_step step no_step scope) ms a b es → Run (step scope) ms a.0 b.0 es
alone_runs step scope [] a b es r = (ap (λ z. z.0) r.0, r.1)
alone_runs step scope (m ∷ ms) a b es (mid, first, rest, (f, g, s, t, e₁), r, e) =
    (mid.0, f, rest, s, alone_runs step scope ms mid b rest r, e ∙ ap (λ z. z ++ rest) (e₁ ∙ ap (λ z. f ++ z) t.1 ∙ append-nil f))

-- so a list of one rule appends what that rule is allowed
pub one_appends : {S C V : Type 0} (step : StepOf S C V) (fresh : V → Type 0) (allows : V → Allowance S C) → AllowsFrom step fresh allows → WalksAppend (pair_step step no_step) (of_newest fresh) (of_newest allows)
one_appends step fresh allows keeps a b w w' doc f known (es, r, e) =
    fresh_append step fresh allows keeps a.0 b.0 w w' doc f known (es, alone_runs step (scope_of_context w) (typed_events w.schema (typing w) doc) a b es r, e)
