-- A run through the events of an outline, by steps where nodes are entered, is a run through its occurrences.
use Rattle.std.proofs.Common.{◌≡◌, List, [], ◌∷◌, ◌++◌, false, refl, ap, sym, ◌∙◌, subst, IsPermutation}
use Rattle.std.proofs.lemmas.List.Sorted.{IsPermutation-refl}
use Rattle.std.proofs.lemmas.List.{append-nil}
use Rattle.std.specs.List.{flat_map}
use Rattle.language_values.specs.Each.{Each}
use Rattle.language.specs.declared.tree.Definition.{Definition}
use Rattle.walk.specs.ErrorValue.{ErrorValue}
use Rattle.walk.specs.ContextState.{DocumentScope, scope_of}
use Rattle.events.specs.Outline.{Outline, empty, entry, each, outline_of_definition, outline_of_document}
use Rattle.events.specs.TypedEvent.{leaving, TypedEvent, events_of}
use Rattle.events.specs.Occurrence.{Occurrence, occurrences_of, occurrences, is_document}
use Rattle.events.specs.Node.{Node}
use Rattle.events.proofs.Occurrences.{IsInner, inner-document, inner-occurrences}
use Rattle.walk.specs.Step.{Run}
use Rattle.walk.specs.Rule.{AllowsFrom, always, exactly, any_value}
use Rattle.walk.specs.Entering.{entering_step, finding_step, found, relating_step, given, EachGives, keeping_step, found_keeping, kept_findings, kept_to, kept_after, made_at, prepared_step, found_by}
use Rattle.walk.proofs.Runs.{Run-append, Run-split}

module _ {S C V : Type 0} (step : DocumentScope S C → Occurrence S C → V → V → List ErrorValue → Type 0) (scope : DocumentScope S C) where
  pub run_at_occurrences : (o : Outline S C) (a b : V) (es : List ErrorValue) → Run (entering_step step scope) (events_of o) a b es → Run (step scope) (occurrences_of o) a b es
  run_at_occurrences empty a b es r = r
  run_at_occurrences (entry node types inside after) a b es (mid, first, rest, s, r, e) =
      let leave : TypedEvent S C = record { side = leaving; node = node; types = types } in
      let (c, fs, gs, p, (d, none, hs, (same, quiet), q, e'), e'') = Run-split (entering_step step scope) (events_of inside) (leave ∷ events_of after) mid b rest r in
      let q' : Run (entering_step step scope) (events_of after) c b hs = subst (λ z. Run (entering_step step scope) (events_of after) z b hs) same q in
      let all = Run-append (step scope) (occurrences_of inside) (occurrences_of after) mid c b fs hs (run_at_occurrences inside mid c fs p) (run_at_occurrences after c b hs q') in
      (mid, first, fs ++ hs, s, all, e ∙ ap (λ z. first ++ z) (e'' ∙ ap (λ z. fs ++ z) (e' ∙ ap (λ z. z ++ hs) quiet)))

module _ {O V : Type 0} where
  run_finds : (finds : O → List ErrorValue) (os : List O) (a b : V) (es : List ErrorValue) → Run (λ o c d fs. (d ≡ c) × (fs ≡ finds o)) os a b es → es ≡ flat_map finds os
  run_finds finds [] a b es r = r.1
  run_finds finds (o ∷ os) a b es (mid, first, rest, s, r, e) =
      e ∙ ap (λ z. z ++ rest) s.1 ∙ ap (λ z. finds o ++ z) (run_finds finds os mid b rest r)

  run_gives : (gives : O → List ErrorValue → Type 0) (os : List O) (a b : V) (es : List ErrorValue) → Run (λ o c d fs. (d ≡ c) × gives o fs) os a b es → EachGives gives os es
  run_gives gives [] a b es r = r.1
  run_gives gives (o ∷ os) a b es (mid, first, rest, s, r, e) = (first, rest, s.1, run_gives gives os mid b rest r, e)

  run_keeps : {K : Type 0} (kept : V → K) (next : O → K → K) (finds : O → K → List ErrorValue) (os : List O) (k : K) (a b : V) (es : List ErrorValue) → kept a ≡ k → Run (λ o c d fs. (kept d ≡ next o (kept c)) × (fs ≡ finds o (kept c))) os a b es → es ≡ found_keeping next finds k os
  run_keeps kept next finds [] k a b es h r = r.1
  run_keeps kept next finds (o ∷ os) k a b es h (mid, first, rest, s, r, e) =
      e
      ∙ ap (λ z. z ++ rest) (s.1 ∙ ap (finds o) h)
      ∙ ap (λ z. finds o k ++ z) (run_keeps kept next finds os (next o k) mid b rest (s.0 ∙ ap (next o) h) r)

  run_kept : {K : Type 0} (kept : V → K) (next : O → K → K) (finds : O → K → List ErrorValue) (os : List O) (k : K) (a b : V) (es : List ErrorValue) → kept a ≡ k → Run (λ o c d fs. (kept d ≡ next o (kept c)) × (fs ≡ finds o (kept c))) os a b es → kept b ≡ kept_after next k os
  run_kept kept next finds [] k a b es h r = ap kept r.0 ∙ h
  run_kept kept next finds (o ∷ os) k a b es h (mid, first, rest, s, r, e) =
      run_kept kept next finds os (next o k) mid b rest (s.0 ∙ ap (next o) h) r

unmade : {S K : Type 0} (make : List (Definition S) → K) (n : Node S) (k : K) → is_document n ≡ false → made_at make n k ≡ k
unmade make (Node.document doc) k e = cc
unmade make _ k e = refl

-- what was made of the document is read from then on
run_made : {S C V K : Type 0} (kept : V → K) (make : List (Definition S) → K) (finds : K → Occurrence S C → List ErrorValue) (os : List (Occurrence S C)) (k : K) (a b : V) (es : List ErrorValue) → Each IsInner os → kept a ≡ k
    → Run (λ o c d fs. (kept d ≡ made_at make o.node (kept c)) × (fs ≡ finds (kept d) o)) os a b es → es ≡ flat_map (finds k) os
run_made kept make finds [] k a b es i h r = r.1
run_made kept make finds (o ∷ os) k a b es (i, is) h (mid, first, rest, s, r, e) =
    let here : kept mid ≡ k = s.0 ∙ unmade make o.node (kept a) i ∙ h in
    e ∙ ap (λ z. z ++ rest) (s.1 ∙ ap (λ z. finds z o) here) ∙ ap (λ z. finds k o ++ z) (run_made kept make finds os k mid b rest is here r)

permuted : {X : Type 0} (xs ys : List X) → ys ≡ xs → IsPermutation xs ys
permuted xs ys e = subst (λ z. IsPermutation xs z) (sym e) (IsPermutation-refl xs)

module _ {S C V : Type 0} where
  -- a rule with no state reports what it finds at the occurrences
  pub finding_keeps : (finds : DocumentScope S C → Occurrence S C → List ErrorValue) → AllowsFrom (finding_step {V = V} finds) any_value (always (exactly (found finds)))
  finding_keeps finds start fresh schema t doc end es r =
      let scope = scope_of schema doc in
      permuted _ _ (run_finds (finds scope) (occurrences schema t doc) start end es (run_at_occurrences (λ scope o a b es. (b ≡ a) × (es ≡ finds scope o)) scope (outline_of_document schema t doc) start end es r))

  -- a rule that may choose reports what the occurrences give
  pub relating_keeps : (gives : DocumentScope S C → Occurrence S C → List ErrorValue → Type 0) → AllowsFrom (relating_step {V = V} gives) any_value (always (given gives))
  relating_keeps gives start fresh schema t doc end es r =
      let scope = scope_of schema doc in
      run_gives (gives scope) (occurrences schema t doc) start end es (run_at_occurrences (λ scope o a b es. (b ≡ a) × gives scope o es) scope (outline_of_document schema t doc) start end es r)

  -- a rule that keeps something reports what is found by it
  pub keeping_keeps : {K : Type 0} (kept : V → K) (next : DocumentScope S C → Occurrence S C → K → K) (finds : DocumentScope S C → Occurrence S C → K → List ErrorValue) (k : K) → AllowsFrom (keeping_step kept next finds) (λ a. kept a ≡ k) (always (exactly (kept_findings next finds k)))
  keeping_keeps kept next finds k start fresh schema t doc end es r =
      let scope = scope_of schema doc in
      permuted _ _ (run_keeps kept (next scope) (finds scope) (occurrences schema t doc) k start end es fresh (run_at_occurrences (λ scope o a b es. (kept b ≡ next scope o (kept a)) × (es ≡ finds scope o (kept a))) scope (outline_of_document schema t doc) start end es r))

  -- and it ends with what is kept after all occurrences
  pub keeping_keeps_to : {K : Type 0} (kept : V → K) (next : DocumentScope S C → Occurrence S C → K → K) (finds : DocumentScope S C → Occurrence S C → K → List ErrorValue) (k : K) → AllowsFrom (keeping_step kept next finds) (λ a. kept a ≡ k) (kept_to kept next finds k)
  keeping_keeps_to kept next finds k start fresh schema t doc end es r =
      let scope = scope_of schema doc in
      let q = run_at_occurrences (λ scope o a b es. (kept b ≡ next scope o (kept a)) × (es ≡ finds scope o (kept a))) scope (outline_of_document schema t doc) start end es r in
      (run_kept kept (next scope) (finds scope) (occurrences schema t doc) k start end es fresh q, keeping_keeps kept next finds k start fresh schema t doc end es r)

  -- a rule that makes something of the document reports what it finds by it
  pub prepared_keeps : {K : Type 0} (kept : V → K) (make : DocumentScope S C → List (Definition S) → K) (finds : DocumentScope S C → K → Occurrence S C → List ErrorValue) → AllowsFrom (prepared_step kept make finds) any_value (always (exactly (found_by make finds)))
  prepared_keeps kept make finds start fresh schema t doc end es r =
      let scope = scope_of schema doc in
      let inside : Outline S C = each (outline_of_definition schema t) doc in
      let first : Occurrence S C = record { node = Node.document doc; types = t } in
      let (mid, f, rest, s, q, e) = run_at_occurrences (λ scope o a b es. (kept b ≡ made_at (make scope) o.node (kept a)) × (es ≡ finds scope (kept b) o)) scope (outline_of_document schema t doc) start end es r in
      let inner : Each IsInner (occurrences_of inside ++ []) = subst (Each IsInner) (sym (append-nil (occurrences_of inside))) (inner-occurrences inside (inner-document schema t doc)) in
      permuted _ _ (e ∙ ap (λ z. z ++ rest) (s.1 ∙ ap (λ z. finds scope z first) s.0) ∙ ap (λ z. finds scope (make scope doc) first ++ z) (run_made kept (make scope) (finds scope) (occurrences_of inside ++ []) (make scope doc) mid end rest inner s.0 q))
