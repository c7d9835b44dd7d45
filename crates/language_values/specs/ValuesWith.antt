-- Values with a fact of each, for an induction over values.
use Rattle.std.specs.Prelude.{List, [], ◌∷◌, map}
use Rattle.language_types.specs.declared.position.Spanning.{Spanning}
use Rattle.language_types.specs.declared.position.Span.{Span}
use Rattle.language_values.specs.declared.value.InputValue.{InputValue}
use Rattle.language_values.specs.Each.{Each}
use Rattle.language_values.specs.Values.{Entry}

module _ {S : Type 0} (P : InputValue S → Type 0) where
  abbrev pub SuchValue : Type 0
  SuchValue = (v : InputValue S) × P v

  abbrev pub bare : Spanning SuchValue Span → Spanning (InputValue S) Span
  bare x = record { item = x.item.0; span = x.span }

  abbrev pub bare_entry : Entry SuchValue → Entry (InputValue S)
  bare_entry e = (e.0, bare e.1)

  pub each_item : (xs : List (Spanning SuchValue Span)) → Each (λ x. P x.item) (map bare xs)
  each_item [] = tt
  each_item (x ∷ xs) = (x.item.1, each_item xs)

  pub each_entry : (es : List (Entry SuchValue)) → Each (λ e. P e.1.item) (map bare_entry es)
  each_entry [] = tt
  each_entry (e ∷ es) = (e.1.item.1, each_entry es)
