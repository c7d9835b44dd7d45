-- When the rule reports nothing. In specs/, since ghost members of an impl cite nothing else.
use Rattle.std.proofs.Common.{◌≡◌, ◌↔◌, List, [], ◌∷◌, map, refl, ap, sym, ◌∙◌, subst, arith}
use Rattle.std.specs.List.{Contains}
use Rattle.language.specs.declared.tree.Definition.{Definition}
use Rattle.language.specs.declared.tree.Definition.TheVariants as definition
use Rattle.fragment_reach.specs.Reach.{IsReached}
use Rattle.walk.specs.Rule.{SilentIff}
use Rattle.rules_document.specs.AtDocument.{given_at_end}
use Rattle.rules_document.specs.AtDocumentLaws.{lists_silent, map_none}
use Rattle.rules_document.specs.MetFragments.{NameAndSpan, name_and_span}
use Rattle.rules_document.specs.NoUnusedFragments.{unused_error, unused_errors, IsSame, NoneUnused, UnusedAmong}
use Rattle.rules_document.specs.NoUnusedFragments.{UnusedAreTold, UnusedOf}

module _ {S : Type 0} (document : List (Definition S)) where
  used_where_none : (fs : List NameAndSpan) → UnusedAmong document document fs → fs ≡ [] → NoneUnused document
  used_where_none fs u e f there unreached =
      let p = name_and_span f in
      let c = subst (λ zs. Contains zs p) e ((u.are p).1 ((definition.Fragment f, there, refl), unreached)) in absurd (omega (arith, c.1))

  used_at : NoneUnused document → (d : Definition S) (p : NameAndSpan) → Contains document d → IsSame d p → (IsReached document p.0 → ⊥) → ⊥
  used_at used (definition.Operation o) p there same unreached = same
  used_at used (definition.Fragment f) p there same unreached =
      used f there (λ reached. unreached (subst (IsReached document) (ap (λ q. q.0) same) reached))

  none_where_used : (fs : List NameAndSpan) → UnusedAmong document document fs → NoneUnused document → fs ≡ []
  none_where_used [] u used = refl
  none_where_used (p ∷ fs) u used = let (stands, unreached) = (u.are p).0 (0, omega arith, refl) in
      absurd (used_at used stands.0 p stands.1 stands.2 unreached)

-- what may be reported is nothing if and only if no fragment is unused
pub unused_silent : {S C : Type 0} → SilentIff (given_at_end {S = S} {C = C} unused_errors) (λ scope t doc. NoneUnused doc)
unused_silent = lists_silent UnusedOf unused_error NoneUnused (λ doc fs u. (used_where_none doc fs u, none_where_used doc fs u))

-- so of the errors, whatever the schema
pub unused_told : {S : Type 0} → UnusedAreTold S
unused_told document es (fs, u, is) = (
  λ e. used_where_none document fs u (map_none unused_error fs (sym is ∙ e)),
  λ used. is ∙ ap (map unused_error) (none_where_used document fs u used),
)
