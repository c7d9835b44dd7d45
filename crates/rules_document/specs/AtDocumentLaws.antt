-- What a rule reports that looks at the whole document where it is left, and when that is nothing. In specs/, since
-- ghost members of an impl cite nothing else.
use Rattle.std.proofs.Common.{◌≡◌, ◌↔◌, List, [], ◌∷◌, ◌++◌, false, map, refl, ap, sym, ◌∙◌, subst}
use Rattle.std.proofs.lemmas.List.{append-nil}
use Rattle.language.specs.declared.tree.Definition.{Definition}
use Rattle.schema.specs.Catalog.{Catalog}
use Rattle.events.specs.Node.{Node}
use Rattle.events.specs.Occurrence.{is_document}
use Rattle.events.specs.Outline.{Outline, empty, entry, each, outline_of_definition}
use Rattle.events.specs.TypedEvent.{leaving, TypedEvent, events_of, typed_events}
use Rattle.events.specs.Typing.{Typing}
use Rattle.events.proofs.Occurrences.{Inner, inner-document}
use Rattle.walk.specs.ErrorValue.{ErrorValue}
use Rattle.walk.specs.ContextState.{DocumentScope, scope_of}
use Rattle.walk.specs.Step.{Run}
use Rattle.walk.specs.Rule.{AllowsFrom, SilentIff, any_value}
use Rattle.walk.proofs.Runs.{Run-split}
use Rattle.rules_document.specs.AtDocument.{Gives, at_document, document_step, given_at_end, lists}

idle_at : {S V : Type 0} (gives : List (Definition S) → V → List ErrorValue → Type 0) (n : Node S) (a b : V)
    (es : List ErrorValue) → is_document n ≡ false → at_document gives n a b es → es ≡ []
idle_at gives (Node.document doc) a b es e h = cc
idle_at gives _ a b es e h = h.1

module _ {S C V : Type 0} (gives : Gives S C V) (scope : DocumentScope S C) where
  -- where no document is left nothing is reported
  idle_inside : (o : Outline S C) (a b : V) (es : List ErrorValue) → Inner o
      → Run (document_step gives scope) (events_of o) a b es → es ≡ []
  idle_inside empty a b es i r = r.1
  idle_inside (entry node types inside after) a b es (i, j, k) (mid, first, rest, s, r, e) =
      let leave : TypedEvent S C = record { side = leaving; node = node; types = types } in
      let (c, fs, gs, p, (d, none, hs, left, q, e'), e'') =
      Run-split (document_step gives scope) (events_of inside) (leave ∷ events_of after) mid b rest r in
      e ∙ ap (λ z. z ++ rest) s.1 ∙ e'' ∙ ap (λ z. z ++ gs) (idle_inside inside mid c fs j p)
      ∙ e' ∙ ap (λ z. z ++ hs) (idle_at (gives scope) node c d none i left) ∙ idle_inside after d b hs k q

module _ {S C V : Type 0} where
  -- what it reports is given of the document, in whatever context
  pub document_given : (gives : Gives S C V) (scope : DocumentScope S C) (schema : Catalog S C) (t : Typing S C)
      (doc : List (Definition S)) (start end : V) (es : List ErrorValue)
      → Run (document_step gives scope) (typed_events schema t doc) start end es → gives scope doc end es
  document_given gives scope schema t doc start end es (mid, first, rest, s, r, e) =
      let inside : Outline S C = each (outline_of_definition schema t) doc in
      let leave : TypedEvent S C = record { side = leaving; node = Node.document doc; types = t } in
      let (c, fs, gs, p, (d, late, hs, left, (same, none), e'), e'') =
      Run-split (document_step gives scope) (events_of inside) (leave ∷ []) mid end rest r in
      let all : es ≡ late =
      e ∙ ap (λ z. z ++ rest) s.1 ∙ e'' ∙ ap (λ z. z ++ gs) (idle_inside gives scope inside mid c fs (inner-document schema t doc) p)
      ∙ e' ∙ ap (λ z. late ++ z) none ∙ append-nil late
      in
      subst (λ z. gives scope doc end z) (sym all) (subst (λ z. gives scope doc z late) (sym same) left)

  -- so in one that was made for it
  pub document_keeps : (gives : Gives S C V) → AllowsFrom (document_step gives) any_value (given_at_end gives)
  document_keeps gives start fresh schema t doc end es r = document_given gives (scope_of schema doc) schema t doc start end es r

pub map_none : {X : Type 0} (error : X → ErrorValue) (xs : List X) → map error xs ≡ [] → xs ≡ []
map_none error [] e = refl
map_none error (x ∷ xs) e = cc

module _ {S C V X : Type 0} (P : List (Definition S) → List X → Type 0) (error : X → ErrorValue) where
  -- a rule that lists what it finds reports nothing where nothing is found
  pub lists_silent : (N : List (Definition S) → Type 0)
      → ((doc : List (Definition S)) (found : List X) → P doc found → (found ≡ []) ↔ N doc)
      → SilentIff {S = S} {C = C} {V = V} (given_at_end (lists P error)) (λ scope t doc. N doc)
  lists_silent N none end scope t doc es (found, holds, is) =
      let h = none doc found holds in (λ e. h.0 (map_none error found (sym is ∙ e)), λ n. is ∙ ap (map error) (h.1 n))
