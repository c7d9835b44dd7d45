-- What is told of directives, of one more each time.
use Rattle.std.proofs.Common.{◌≡◌, ◌↔◌, ℕ, ◌+◌, ◌<◌, get_or, List, [], ◌∷◌, ◌++◌, take, length, Option, None, Some, ap, refl, sym, ◌∙◌, subst, append_assoc}
use Rattle.std.specs.List.{All, flat_map}
use Rattle.std.specs.Option.{option_to_list}
use Rattle.std.proofs.lemmas.List.{append-nil}
use Rattle.std.proofs.lemmas.List.Elements.{All-cons, All-head, All-nil, All-tail}
use Rattle.graphql_reader.specs.declared.type_system.DirectiveDefinition.{DirectiveDefinition}
use Rattle.graphql_reader.specs.declared.type_system.TypeSystemDefinition.{TypeSystemDefinition}
use Rattle.sdl_directives.specs.Known.{directive_of}
use Rattle.sdl_directive_circles.specs.Circles.{AddsCircles, AreCirclesOf, CircleValue, IsToldOf, RefersToItself}
use Rattle.sdl_directive_circles.proofs.Lists.{flat_next}

module _ (document : List TypeSystemDefinition) where
  circles_more : (ds es : List DirectiveDefinition) (old new : List CircleValue) → AreCirclesOf document ds old
      → AddsCircles document es old new → AreCirclesOf document (ds ++ es) new
  circles_more [] es old new is (more, are, e) = subst (AreCirclesOf document es) (sym (e ∙ ap (λ z. z ++ more) is)) are
  circles_more (d ∷ ds) es old new (told, rest, one, there, is) (more, are, e) = (
    told,
    rest ++ more,
    one,
    circles_more ds es rest (rest ++ more) there (more, are, refl),
    e ∙ ap (λ z. z ++ more) is ∙ append_assoc (option_to_list told) rest more,
  )

  -- of the definitions that were seen, and of the next
  pub circles_next : (xs : List TypeSystemDefinition) (i : ℕ) (x d : TypeSystemDefinition) (old new : List CircleValue) → i < length xs
      → x ≡ get_or xs i d
      → AreCirclesOf document (flat_map directive_of (take i xs)) old → AddsCircles document (directive_of x) old new
      → AreCirclesOf document (flat_map directive_of (take (i + 1) xs)) new
  circles_next xs i x d old new room is seen more =
      subst (λ (ds : List DirectiveDefinition). AreCirclesOf document ds new) (flat_next directive_of xs i x d room is)
      (circles_more (flat_map directive_of (take i xs)) (directive_of x) old new seen more)

  -- one directive alone
  pub adds_one : (d : DirectiveDefinition) (told : Option CircleValue) (old new : List CircleValue) → IsToldOf document d told
      → new ≡ old ++ option_to_list told → AddsCircles document (d ∷ []) old new
  adds_one d told old new one is = (option_to_list told, (told, [], one, refl, sym (append-nil (option_to_list told))), is)

  none_told : (d : DirectiveDefinition) (told : Option CircleValue) (rest : List CircleValue) → IsToldOf document d told
      → option_to_list told ++ rest ≡ [] → (RefersToItself document d → ⊥) × (rest ≡ [])
  none_told d None rest one e = (one, e)
  none_told d (Some c) rest one e = absurd cc

  told_none : (d : DirectiveDefinition) (told : Option CircleValue) → IsToldOf document d told → (RefersToItself document d → ⊥)
      → option_to_list told ≡ []
  told_none d None one never = refl
  told_none d (Some c) one never = absurd (never (one.names, one.back))

  none_refers : (ds : List DirectiveDefinition) (cs : List CircleValue) → AreCirclesOf document ds cs → cs ≡ []
      → All (λ d. RefersToItself document d → ⊥) ds
  none_refers [] cs is none = All-nil (λ d. RefersToItself document d → ⊥)
  none_refers (d ∷ ds) cs (told, rest, one, there, is) none =
      let t = none_told d told rest one (sym is ∙ none) in
      All-cons (λ x. RefersToItself document x → ⊥) d ds t.0 (none_refers ds rest there t.1)

  refers_none : (ds : List DirectiveDefinition) (cs : List CircleValue) → AreCirclesOf document ds cs
      → All (λ d. RefersToItself document d → ⊥) ds → cs ≡ []
  refers_none [] cs is h = is
  refers_none (d ∷ ds) cs (told, rest, one, there, is) h =
      let never : DirectiveDefinition → Type 0 = λ x. RefersToItself document x → ⊥ in
      is ∙ ap (λ z. z ++ rest) (told_none d told one (All-head never d ds h)) ∙ refers_none ds rest there (All-tail never d ds h)

  -- nothing is told if and only if none refers to itself
  pub iff_none : (ds : List DirectiveDefinition) (cs : List CircleValue) → AreCirclesOf document ds cs
      → (cs ≡ []) ↔ All (λ d. RefersToItself document d → ⊥) ds
  iff_none ds cs is = (none_refers ds cs is, refers_none ds cs is)
