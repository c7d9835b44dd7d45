-- What a rule gives that keeps something on the way and reports where the document is left. In specs/, since the laws
-- of the rule cite it.
use Rattle.std.proofs.Common.{◌≡◌, List, [], ◌∷◌, ◌++◌, false, refl, ap, sym, ◌∙◌, subst}
use Rattle.std.proofs.lemmas.List.{append-nil}
use Rattle.language.specs.declared.tree.Definition.{Definition}
use Rattle.events.specs.Node.{Node}
use Rattle.events.specs.Occurrence.{Occurrence, occurrences_of, is_document}
use Rattle.events.specs.Outline.{Outline, empty, entry, each, outline_of_definition}
use Rattle.events.specs.TypedEvent.{leaving, TypedEvent, events_of}
use Rattle.events.proofs.Occurrences.{Inner, inner-document}
use Rattle.walk.specs.ContextState.{DocumentScope, scope_of}
use Rattle.walk.specs.Entering.{kept_after}
use Rattle.walk.specs.ErrorValue.{ErrorValue}
use Rattle.walk.specs.Rule.{AllowsFrom}
use Rattle.walk.specs.Step.{Run}
use Rattle.walk.proofs.Runs.{Run-split}
use Rattle.rules_positions.specs.Recording.{GivesBy, at_end, recorded, recording_step}

-- where another node is left nothing is done
idle : {S V : Type 0} (gives : List (Definition S) → V → List ErrorValue → Type 0) (n : Node S) (a b : V)
    (es : List ErrorValue) → is_document n ≡ false → at_end gives n a b es → (b ≡ a) × (es ≡ [])
idle gives (Node.document doc) a b es e h = cc
idle gives _ a b es e h = h

pub kept-append : {O K : Type 0} (next : O → K → K) (k : K) (xs ys : List O)
    → kept_after next k (xs ++ ys) ≡ kept_after next (kept_after next k xs) ys
kept-append next k [] ys = refl
kept-append next k (x ∷ xs) ys = kept-append next (next x k) xs ys

module _ {S C V K : Type 0} (kept : V → K) (next : DocumentScope S C → Occurrence S C → K → K) (gives : GivesBy S C K V)
    (scope : DocumentScope S C) where
  -- where no document is left nothing is reported, and what is kept is what the occurrences make of it
  inside_keeps : (o : Outline S C) (a b : V) (es : List ErrorValue) → Inner o
      → Run (recording_step kept next gives scope) (events_of o) a b es
      → (kept b ≡ kept_after (next scope) (kept a) (occurrences_of o)) × (es ≡ [])
  inside_keeps empty a b es i r = (ap kept r.0, r.1)
  inside_keeps (entry node types inside after) a b es (i, j, k) (mid, first, rest, s, r, e) =
      let leave : TypedEvent S C = record { side = leaving; node = node; types = types } in
      let (c, fs, gs, p, (d, none, hs, left, q, e'), e'') =
      Run-split (recording_step kept next gives scope) (events_of inside) (leave ∷ events_of after) mid b rest r in
      let (same, quiet) = idle (λ doc x zs. gives scope doc (kept c) x zs) node c d none i left in
      let (in_here, nothing_here) = inside_keeps inside mid c fs j p in
      let (in_rest, nothing_there) = inside_keeps after d b hs k q in
      let at : Occurrence S C = record { node = node; types = types } in (
        in_rest
            ∙ ap (λ z. kept_after (next scope) z (occurrences_of after))
            (ap kept same ∙ in_here ∙ ap (λ z. kept_after (next scope) z (occurrences_of inside)) s.0)
            ∙ sym (kept-append (next scope) (next scope at (kept a)) (occurrences_of inside) (occurrences_of after)),
        e ∙ ap (λ z. z ++ rest) s.1 ∙ e'' ∙ ap (λ z. z ++ gs) nothing_here ∙ e' ∙ ap (λ z. z ++ hs) quiet ∙ nothing_there,
      )

module _ {S C V K : Type 0} where
  -- it reports what is given of the document by what was kept of its occurrences
  pub recording_keeps : (kept : V → K) (next : DocumentScope S C → Occurrence S C → K → K) (gives : GivesBy S C K V)
      (k : K) → AllowsFrom (recording_step kept next gives) (λ a. kept a ≡ k) (recorded next gives k)
  recording_keeps kept next gives k start fresh schema t doc end es (mid, first, rest, s, r, e) =
      let scope : DocumentScope S C = scope_of schema doc in
      let inside : Outline S C = each (outline_of_definition schema t) doc in
      let whole : Occurrence S C = record { node = Node.document doc; types = t } in
      let leave : TypedEvent S C = record { side = leaving; node = Node.document doc; types = t } in
      let (c, fs, gs, p, (d, late, hs, left, (same, none), e'), e'') =
      Run-split (recording_step kept next gives scope) (events_of inside) (leave ∷ []) mid end rest r in
      let (in_here, nothing_here) = inside_keeps kept next gives scope inside mid c fs (inner-document schema t doc) p in
      let all : es ≡ late =
      e ∙ ap (λ z. z ++ rest) s.1 ∙ e'' ∙ ap (λ z. z ++ gs) nothing_here ∙ e' ∙ ap (λ z. late ++ z) none ∙ append-nil late
      in
      let after : kept c ≡ kept_after (next scope) k ((whole ∷ occurrences_of inside) ++ []) =
      in_here
      ∙ ap (λ z. kept_after (next scope) z (occurrences_of inside)) (s.0 ∙ ap (next scope whole) fresh)
      ∙ ap (λ z. kept_after (next scope) k (whole ∷ z)) (sym (append-nil (occurrences_of inside)))
      in
      subst (λ z. gives scope doc z end es) after
      (subst (λ z. gives scope doc (kept c) z es) (sym same)
      (subst (λ z. gives scope doc (kept c) d z) (sym all) left))
