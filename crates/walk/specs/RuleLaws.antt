-- Rules in a list report what each of them is allowed.
use Rattle.std.proofs.Common.{◌≡◌, ◌↔◌, List, [], ◌∷◌, ◌++◌, zero, suc, ap, ◌∙◌, refl, sym, subst, arith, IsPermutation}
use Rattle.std.specs.List.{Contains, flat_map}
use Rattle.std.proofs.lemmas.List.{nil_from_length}
use Rattle.std.proofs.lemmas.List.Elements.{Contains-append_right}
use Rattle.std.proofs.lemmas.List.Sorted.{length_permutation}
use Rattle.language.specs.declared.tree.Definition.{Definition}
use Rattle.walk.specs.declared.multi_visitor.MultiVisitorNil.{MultiVisitorNil}
use Rattle.walk.specs.ErrorValue.{ErrorValue}
use Rattle.walk.specs.ContextState.{DocumentScope, scope_of}
use Rattle.events.specs.TypedEvent.{TypedEvent, typed_events}
use Rattle.events.specs.Occurrence.{Occurrence, occurrences}
use Rattle.walk.specs.Step.{StepOf, Run}
use Rattle.walk.specs.Pair.{pair_step, no_step}
use Rattle.walk.specs.Rule.{Allowance, AllowsFrom, Collection, Condition, SilentIff, Settled, allows_none, always}
use Rattle.walk.specs.Rule.{anywhere, both_so, exactly, is_empty, nothing, pair_allows, pair_fresh, any_value}
use Rattle.walk.specs.Entering.{everywhere, everywhere_by, found, found_by}
use Rattle.walk.specs.PairLaws.{pair_splits}

nothing_reports : {S C : Type 0} (scope : DocumentScope S C) (ms : List (TypedEvent S C)) (a b : MultiVisitorNil)
    (es : List ErrorValue) → Run (no_step scope) ms a b es → es ≡ []
nothing_reports scope [] a b es r = r.1
nothing_reports scope (m ∷ ms) a b es (mid, first, rest, s, r, e) =
    e ∙ ap (λ z. z ++ rest) s.1 ∙ nothing_reports scope ms mid b rest r

-- no rule reports nothing
pub nil_keeps : {S C : Type 0} → AllowsFrom (no_step {S = S} {C = C}) any_value (always nothing)
nil_keeps start fresh schema t doc end es r = nothing_reports (scope_of schema doc) (typed_events schema t doc) start end es r

-- two rules report what the two report
pub pair_keeps : {S C V W : Type 0} (newer : StepOf S C V) (other : StepOf S C W) (f : V → Type 0) (g : W → Type 0)
    (c : V → Allowance S C) (d : W → Allowance S C)
    → AllowsFrom newer f c → AllowsFrom other g d → AllowsFrom (pair_step newer other) (pair_fresh f g) (pair_allows c d)
pair_keeps newer other f g c d p q start fresh schema t doc end es r =
    let s = pair_splits newer other (scope_of schema doc) (typed_events schema t doc) start end es r in (
      s.by_newer,
      s.by_other,
      p start.0 fresh.0 schema t doc end.0 s.by_newer s.newer_runs,
      q start.1 fresh.1 schema t doc end.1 s.by_other s.other_runs,
      s.together,
    )

none_permuted : {X : Type 0} (xs : List X) → IsPermutation xs [] → xs ≡ []
none_permuted xs p = nil_from_length xs (sym (length_permutation xs [] p))

permuted_none : {X : Type 0} (xs : List X) → IsPermutation [] xs → xs ≡ []
permuted_none xs p = nil_from_length xs (length_permutation [] xs p)

left_none : {X : Type 0} (xs ys : List X) → xs ++ ys ≡ [] → xs ≡ []
left_none [] ys e = refl
left_none (x ∷ xs) ys e = cc

right_none : {X : Type 0} (xs ys : List X) → xs ++ ys ≡ [] → ys ≡ []
right_none [] ys e = e
right_none (x ∷ xs) ys e = cc

none_both : {X : Type 0} (xs ys : List X) → xs ≡ [] → ys ≡ [] → xs ++ ys ≡ []
none_both xs ys e f = ap (λ z. z ++ ys) e ∙ f

-- no rule reports nothing, in any document
pub nil_silent : {S C : Type 0} → SilentIff (always {V = MultiVisitorNil} (nothing {S = S} {C = C})) anywhere
nil_silent end scope t doc es none = (λ e. tt, λ u. none)

-- two rules report nothing where each finds nothing
pub pair_silent : {S C V W : Type 0} (c : V → Allowance S C) (d : W → Allowance S C) (f g : Condition S C)
    → SilentIff c f → SilentIff d g → SilentIff (pair_allows c d) (both_so f g)
pair_silent c d f g h k end scope t doc es (fs, gs, p, q, r) =
    let first = h end.0 scope t doc fs p in
    let second = k end.1 scope t doc gs q in (
      λ e. let both = none_permuted (fs ++ gs) (subst (IsPermutation (fs ++ gs)) e r) in
          (first.0 (left_none fs gs both), second.0 (right_none fs gs both)),
      λ n. permuted_none es (subst (λ z. IsPermutation z es) (none_both fs gs (first.1 n.0) (second.1 n.1)) r),
    )

-- what is found in a list is nothing where nothing is found in each of its members
module _ {O R : Type 0} (finds : O → List R) where
  pub none_each : (os : List O) → flat_map finds os ≡ [] → (o : O) → Contains os o → finds o ≡ []
  none_each [] e o (k, within, at) = absurd (omega (arith, within))
  none_each (p ∷ os) e o (zero, within, at) = subst (λ z. finds z ≡ []) at (left_none (finds p) (flat_map finds os) e)
  none_each (p ∷ os) e o (suc k, within, at) =
      none_each os (right_none (finds p) (flat_map finds os) e) o (k, omega (arith, within), at)

  pub none_all : (os : List O) → ((o : O) → Contains os o → finds o ≡ []) → flat_map finds os ≡ []
  none_all [] h = refl
  none_all (p ∷ os) h =
      none_both (finds p) (flat_map finds os) (h p (zero, omega arith, refl))
      (none_all os (λ o there. h o (Contains-append_right (p ∷ []) os o there)))

module _ {S C V : Type 0} where
  -- a rule that reports exactly a collection reports nothing where the collection is empty
  pub exactly_silent : (collection : Collection S C) → SilentIff {V = V} (always (exactly collection)) (is_empty collection)
  exactly_silent collection end scope t doc es p = (
    λ e. none_permuted (collection scope t doc) (subst (IsPermutation (collection scope t doc)) e p),
    λ e. permuted_none es (subst (λ z. IsPermutation z es) e p),
  )

  -- a rule that is settled reports nothing where it may report nothing
  pub settled_silent : (allowance : Allowance S C) → Settled allowance → SilentIff {V = V} (always allowance) (allows_none allowance)
  settled_silent allowance h end scope t doc es p = (
    λ e. subst (allowance scope t doc) e p,
    λ none. h scope t doc es none p,
  )

  -- a rule that finds nothing at an occurrence if and only if it is as it should be
  pub everywhere_silent : (finds : DocumentScope S C → Occurrence S C → List ErrorValue)
      (IsRight : DocumentScope S C → Occurrence S C → Type 0)
      → ((scope : DocumentScope S C) (o : Occurrence S C) → (finds scope o ≡ []) ↔ IsRight scope o)
      → SilentIff {V = V} (always (exactly (found finds))) (everywhere IsRight)
  everywhere_silent finds IsRight at end scope t doc es p =
      let whole = exactly_silent (found finds) end scope t doc es p in
      let os = occurrences scope.schema t doc in (
        λ e o there. (at scope o).0 (none_each (finds scope) os (whole.0 e) o there),
        λ right. whole.1 (none_all (finds scope) os (λ o there. (at scope o).1 (right o there))),
      )

  -- the same of a rule that makes something of the document first
  pub everywhere_by_silent : {K : Type 0} (make : DocumentScope S C → List (Definition S) → K)
      (finds : DocumentScope S C → K → Occurrence S C → List ErrorValue)
      (IsRight : DocumentScope S C → K → Occurrence S C → Type 0)
      → ((scope : DocumentScope S C) (k : K) (o : Occurrence S C) → (finds scope k o ≡ []) ↔ IsRight scope k o)
      → SilentIff {V = V} (always (exactly (found_by make finds))) (everywhere_by make IsRight)
  everywhere_by_silent make finds IsRight at end scope t doc es p =
      let whole = exactly_silent (found_by make finds) end scope t doc es p in
      let os = occurrences scope.schema t doc in
      let k = make scope doc in (
        λ e o there. (at scope k o).0 (none_each (finds scope k) os (whole.0 e) o there),
        λ right. whole.1 (none_all (finds scope k) os (λ o there. (at scope k o).1 (right o there))),
      )
