-- What was pushed of a value was pushed of its equal.
use Rattle.std.proofs.Common.{◌≡◌, List, [], ◌∷◌, ◌++◌, sym, ap, ◌∙◌, subst, refl, length}
use Rattle.std.specs.Prelude.{Result, Vec, OnOk}
use Rattle.std.specs.declared.alloc.Global.{Global}
use Rattle.std.proofs.lemmas.List.{nil_from_length}
use Rattle.schema.specs.Catalog.{Catalog}
use Rattle.events.specs.declared.cursor.Frame.{Frame}
use Rattle.events.specs.Outline.{Outline, each}
use Rattle.events.specs.TypedEvent.{events_of}
use Rattle.events.specs.Cursor.{stack_events, Pushes}

module _ {S C : Type 0} where
  pub pushed_of : {T E X : Type 0} (r : Result T E) (f : Catalog S C → X → Outline S C) (old new : Vec (Frame S C) Global) {x y : X} → y ≡ x
      → OnOk r (Pushes old new (λ schema. events_of (f schema x)))
      → OnOk r (Pushes old new (λ schema. events_of (f schema y)))
  pushed_of r f old new e h = subst (λ z. OnOk r (Pushes old new (λ schema. events_of (f schema z)))) (sym e) h

  -- nothing was pushed of a value without events
  pub pushed_none : {X : Type 0} (f : Catalog S C → X → Outline S C) (old : Vec (Frame S C) Global) {x y : X} → y ≡ x
      → ((schema : Catalog S C) → events_of (f schema x) ≡ [])
      → Pushes old old (λ schema. events_of (f schema y))
  pushed_none f old e h schema =
      sym (ap (λ z. events_of (f schema z) ++ stack_events schema old.items) e ∙ ap (λ es. es ++ stack_events schema old.items) (h schema))

  -- nor of a list without items
  pub pushed_empty : {X : Type 0} (f : Catalog S C → X → Outline S C) (old : Vec (Frame S C) Global) (xs : List X) → length xs ≡ 0
      → Pushes old old (λ schema. events_of (each (f schema) xs))
  pushed_empty f old xs e = pushed_none (λ schema. each (f schema)) old (nil_from_length xs e) (λ schema. refl)
