-- What is found of a document in a context that was made for it.
use Rattle.std.proofs.Common.{◌≡◌, ◌↔◌, ◌++◌, ◌∙◌, ℕ, Bool, false, List, [], IsPermutation, ap, subst, sym}
use Rattle.std.proofs.lemmas.List.{append-nil}
use Rattle.std.specs.Global.{Global}
use Rattle.language.specs.declared.tree.Definition.{Definition}
use Rattle.schema.specs.Catalog.{Catalog}
use Rattle.events.specs.TypedEvent.{typed_events}
use Rattle.events.specs.Typing.{untyped}
use Rattle.walk.specs.declared.multi_visitor.MultiVisitorCons.{MultiVisitorCons}
use Rattle.walk.specs.declared.multi_visitor.MultiVisitorNil.{MultiVisitorNil}
use Rattle.walk.specs.ContextState.{ContextState, IsMadeFor, fitting, fresh_context, has_some, scope_of, typing}
use Rattle.walk.specs.ErrorValue.{ErrorValue, shares}
use Rattle.walk.proofs.Kept.{fitting_all}
use Rattle.walk.specs.Pair.{no_step, pair_step}
use Rattle.walk.specs.PairLaws.{pair_splits}
use Rattle.walk.specs.RuleLaws.{nil_keeps}
use Rattle.walk.specs.Step.{Ran, Run, StepOf}
use Rattle.validation.proofs.Reports.{Tells}
use Rattle.validation.proofs.Stages.{is_none}
use Rattle.validation.specs.Stages.{IsValid, IsValidIn, Reported, Rules}

module _ {S C : Type 0} (document : List (Definition S)) (alloc : Global) (schema : Catalog S C) (old : ContextState S C) (fresh : old ≡ fresh_context alloc schema document) where
  -- by all rules
  pub by_all : (new : ContextState S C) (rules : Rules S C) (pairs : ℕ) → Tells rules document old new pairs
      → Reported rules 0 [] (scope_of schema document) untyped document new.errors pairs
  by_all new rules pairs tells =
      let (es, told, appended) = tells (ap (λ w. w.known) fresh) in
      let Of : ContextState S C → Type 0 = λ w. Reported rules w.limit w.errors (scope_of w.schema document) (typing w) document es pairs in
      let same : new.errors ≡ es = ap (λ w. w.errors) appended ∙ ap (λ w. w.errors ++ fitting w.limit (shares w.errors) es) fresh ∙ fitting_all 0 es in
      subst (λ found. Reported rules 0 [] (scope_of schema document) untyped document found pairs) (sym same) (subst Of fresh told)

  -- nothing by all rules if and only if it is valid
  pub none_by_all : (errors : List ErrorValue) (some : Bool) (rules : Rules S C) → some ≡ has_some errors
      → (IsMadeFor old document → old.errors ≡ [] → (errors ≡ []) ↔ IsValidIn rules old document)
      → (some ≡ false) ↔ IsValid rules (scope_of schema document) untyped document
  none_by_all errors some rules asked valid =
      let Of : ContextState S C → Type 0 = λ w. (errors ≡ []) ↔ IsValidIn rules w document in
      let (is_valid, is_silent) = subst Of fresh (valid (ap (λ w. w.known) fresh) (ap (λ w. w.errors) fresh)) in
      (λ no. is_valid (is_none errors (sym asked ∙ no)), λ is. asked ∙ ap has_some (is_silent is))

  -- by a visitor that is alone in its list
  pub by_one : {V : Type 0} (step : StepOf S C V) (visitor : V) (none : MultiVisitorNil) (a b : MultiVisitorCons V MultiVisitorNil) (new : ContextState S C) → a ≡ record { 0 = visitor; 1 = none }
      → Ran (pair_step step no_step) (typed_events old.schema (typing old) document) a b old new
      → (found : List ErrorValue) × Run (step (scope_of schema document)) (typed_events schema untyped document) visitor b.0 found × IsPermutation found new.errors
  by_one step visitor none a b new alone ran =
      let events = typed_events schema untyped document in
      let Of : ContextState S C → Type 0 = λ w. Ran (pair_step step no_step) (typed_events w.schema (typing w) document) a b w new in
      let (es, run, appended) = subst Of fresh ran in
      let both = pair_splits step no_step (scope_of schema document) events a b es run in
      let none_else : both.by_other ≡ [] = nil_keeps a.1 tt schema untyped document b.1 both.by_other both.other_runs in
      let all : both.by_newer ++ both.by_other ≡ both.by_newer = ap (λ others. both.by_newer ++ others) none_else ∙ append-nil both.by_newer in
      let reported : IsPermutation (both.by_newer ++ both.by_other) new.errors = subst (IsPermutation (both.by_newer ++ both.by_other)) (sym (ap (λ w. w.errors) appended ∙ fitting_all 0 es)) both.together in (
        both.by_newer,
        subst (λ list. Run (step (scope_of schema document)) events list.0 b.0 both.by_newer) alone both.newer_runs,
        subst (λ found. IsPermutation found new.errors) all reported,
      )
