-- The events of outlines, in front of others.
use Rattle.std.proofs.Common.{◌≡◌, List, [], ◌∷◌, ◌++◌, refl, ap, sym, ◌∙◌, subst, append_assoc}
use Rattle.std.proofs.lemmas.List.{append-nil}
use Rattle.schema.specs.Catalog.{Catalog}
use Rattle.events.specs.declared.cursor.Frame.{Frame}
use Rattle.events.specs.Node.{Node}
use Rattle.events.specs.Typing.{Typing}
use Rattle.events.specs.Outline.{Outline, empty, entry, beside, each, node_with}
use Rattle.events.specs.TypedEvent.{entering, leaving, TypedEvent, events_of}
use Rattle.events.specs.Cursor.{frame_events, stack_events}

module _ {S C : Type 0} where
  pub events-beside : (a b : Outline S C) → events_of (beside a b) ≡ events_of a ++ events_of b
  events-beside empty b = refl
  events-beside (entry node types inside after) b =
      let enter : TypedEvent S C = record { side = entering; node = node; types = types } in
      let leave : TypedEvent S C = record { side = leaving; node = node; types = types } in
      ap (λ z. enter ∷ (events_of inside ++ (leave ∷ z))) (events-beside after b)
      ∙ ap (λ z. enter ∷ z) (sym (append_assoc (events_of inside) (leave ∷ events_of after) (events_of b)))

  -- what was pushed last comes first
  pub stack-pushed : (schema : Catalog S C) (fs : List (Frame S C)) (f : Frame S C) → stack_events schema (fs ++ f ∷ []) ≡ frame_events schema f ++ stack_events schema fs
  stack-pushed schema [] f = sym (append-nil (frame_events schema f))
  stack-pushed schema (g ∷ fs) f =
      ap (λ z. z ++ frame_events schema g) (stack-pushed schema fs f)
      ∙ append_assoc (frame_events schema f) (stack_events schema fs) (frame_events schema g)

  -- a part before another
  pub two_parts : (a b : Outline S C) (l₀ l₁ l₂ : List (TypedEvent S C)) → l₁ ≡ events_of b ++ l₀ → l₂ ≡ events_of a ++ l₁ → l₂ ≡ events_of (beside a b) ++ l₀
  two_parts a b l₀ l₁ l₂ p q =
      q ∙ ap (λ z. events_of a ++ z) p ∙ sym (append_assoc (events_of a) (events_of b) l₀) ∙ ap (λ z. z ++ l₀) (sym (events-beside a b))

  pub three_parts : (a b c : Outline S C) (l₀ l₁ l₂ l₃ : List (TypedEvent S C)) → l₁ ≡ events_of c ++ l₀ → l₂ ≡ events_of b ++ l₁ → l₃ ≡ events_of a ++ l₂ → l₃ ≡ events_of (beside a (beside b c)) ++ l₀
  three_parts a b c l₀ l₁ l₂ l₃ p q r = two_parts a (beside b c) l₀ l₂ l₃ (two_parts b c l₀ l₁ l₂ p q) r

  -- a node is entered, then comes what stands in it, and then it is left
  pub around : (n : Node S) (t : Typing S C) (a : Outline S C) (l₀ l₁ l₂ : List (TypedEvent S C))
      → l₁ ≡ record { side = leaving; node = n; types = t } ∷ l₀
      → l₂ ≡ events_of a ++ l₁
      → record { side = entering; node = n; types = t } ∷ l₂ ≡ events_of (node_with n t a) ++ l₀
  around n t a l₀ l₁ l₂ p q =
      let enter : TypedEvent S C = record { side = entering; node = n; types = t } in
      let leave : TypedEvent S C = record { side = leaving; node = n; types = t } in
      ap (λ z. enter ∷ z) (q ∙ ap (λ z. events_of a ++ z) p ∙ sym (append_assoc (events_of a) (leave ∷ []) l₀))

  -- the same at types that the node has by another rule
  pub around_at : (n : Node S) (a : Typing S C → Outline S C) (t u : Typing S C) (l₀ l₁ l₂ : List (TypedEvent S C)) → t ≡ u
      → l₁ ≡ record { side = leaving; node = n; types = t } ∷ l₀
      → l₂ ≡ events_of (a t) ++ l₁
      → record { side = entering; node = n; types = t } ∷ l₂ ≡ events_of (node_with n u (a u)) ++ l₀
  around_at n a t u l₀ l₁ l₂ e p q =
      subst (λ w. record { side = entering; node = n; types = t } ∷ l₂ ≡ events_of (node_with n w (a w)) ++ l₀) e (around n t (a t) l₀ l₁ l₂ p q)

  -- the first item of a list comes before the others
  pub first_of_each : {X : Type 0} (f : X → Outline S C) (x : X) (xs : List X) (l₀ l₁ l₂ : List (TypedEvent S C)) → l₁ ≡ events_of (each f xs) ++ l₀ → l₂ ≡ events_of (f x) ++ l₁ → l₂ ≡ events_of (each f (x ∷ xs)) ++ l₀
  first_of_each f x xs l₀ l₁ l₂ p q = two_parts (f x) (each f xs) l₀ l₁ l₂ p q
