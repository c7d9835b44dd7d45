-- When the rule reports nothing. In specs/, since ghost members of an impl cite nothing else.
use Rattle.std.proofs.Common.{◌≡◌, ℕ, List, [], ◌∷◌, inl, inr, map, sym, ◌∙◌, refl, arith}
use Rattle.language.specs.declared.tree.Definition.{Definition}
use Rattle.walk.specs.Rule.{SilentIff}
use Rattle.fragment_graph.specs.DocumentCycles.{NameAndPlace, NamePath, name_step, name_more, IsTrueOf, SomeReported}
use Rattle.fragment_graph.specs.DocumentCycles.{HasNoCycle, FindsCycles}
use Rattle.rules_document.specs.AtDocument.{given_at_end}
use Rattle.rules_document.specs.NoFragmentCycles.{CyclesAreTold, cycle_error, cycle_errors}

module _ {S : Type 0} (document : List (Definition S)) where
  -- a true report lies on a path back
  path_back : (r : NameAndPlace) → IsTrueOf document r → NamePath document r.0 r.0
  path_back r (s, stands, at, inl same) = name_step (s, stands, same)
  path_back r (s, stands, at, inr path) = name_more (s, stands, refl) path

  -- on no path a name of none is reported
  none_reported : {f h : List ℕ} (path : NamePath document f h) → SomeReported [] path → ⊥
  none_reported (name_step s) (r, c, e) = absurd (omega (arith, c.1))
  none_reported (name_more s path) (inl (r, c, e)) = absurd (omega (arith, c.1))
  none_reported (name_more s path) (inr more) = none_reported path more

  no_cycle : (reports : List NameAndPlace) → FindsCycles document reports → map cycle_error reports ≡ [] → HasNoCycle document
  no_cycle [] h e = λ f path. none_reported path (h.enough f path)
  no_cycle (r ∷ rs) h e = absurd cc

  no_error : (reports : List NameAndPlace) → FindsCycles document reports → HasNoCycle document → map cycle_error reports ≡ []
  no_error [] h none = refl
  no_error (r ∷ rs) h none = absurd (none r.0 (path_back r (h.real 0 r (omega arith))))

-- there are no errors if and only if no fragment leads back to itself
pub cycles_told : {S : Type 0} → CyclesAreTold S
cycles_told document end es h = (
  λ e. no_cycle document h.reports h.found (sym h.errors ∙ e),
  λ none. h.errors ∙ no_error document h.reports h.found none,
)

-- so of what the rule may report
pub cycles_silent : {S C : Type 0} → SilentIff (given_at_end {S = S} {C = C} cycle_errors) (λ scope t doc. HasNoCycle doc)
cycles_silent end scope t doc es h = cycles_told doc end es h
