-- The uses in lists and objects that wait, as one more is put on the list.
use Rattle.std.proofs.Common.{◌≡◌, List, [], ◌∷◌, ◌++◌, Option, reverse, refl, sym, ap, ◌∙◌, Bor, option_map, string_bytes}
use Rattle.std.specs.Prelude.{Vec}
use Rattle.std.specs.List.{flat_map}
use Rattle.std.proofs.lemmas.List.{reverse-append}
use Rattle.std.proofs.lemmas.List.Concat.{flat_map-cons}
use Rattle.std.proofs.lemmas.List.Folds.{flat_map-map}
use Rattle.std.specs.declared.alloc.Global.{Global}
use Rattle.language_types.specs.Position.{Placed}
use Rattle.language_values.specs.Values.{Entry}
use Rattle.language_types.specs.declared.position.Span.{Span}
use Rattle.language_values.specs.declared.value.InputValue.{InputValue, fold-roll-InputValue}
use Rattle.language_values.specs.declared.value.InputValue.TheVariants as v
use Rattle.language_values.specs.declared.value.InputValue.TheOpen.{InputValue-F}
use Rattle.schema.specs.Catalog.{Catalog}
use Rattle.rules_specified_uses.specs.InputPlaces.{PlaceValue, field_place, item_place, place_value}
use Rattle.rules_positions.specs.RecordedUses.{with_use, with_uses}
use Rattle.rules_specified_uses.specs.ValueUses.{UseValue, UsesAt, uses_of, uses_step, value_uses}
use Rattle.rules_specified_uses.specs.Waiting.{left_uses, waiting_uses}
use Rattle.rules_specified_uses.specs.declared.input_places.InputPlace.{InputPlace}
use Rattle.rules_specified_uses.specs.declared.value_uses.Waiting.{Waiting}
use Rattle.rules_specified_uses.specs.declared.value_uses.Waiting.TheVariants.{Items, Entries}

pub with_uses-append : (us vs : List UseValue) (lists : List (List UseValue)) → with_uses (us ++ vs) lists ≡ with_uses vs (with_uses us lists)
with_uses-append [] vs lists = refl
with_uses-append (u ∷ us) vs lists = with_uses-append us vs (with_use u lists)

module _ {S C : Type 0} (schema : Catalog S C) where
  of_list : (xs : Vec (Placed (InputValue S)) Global) (here : Span) (place : Option PlaceValue) → uses_of schema (v.List xs) here place ≡ flat_map (value_uses schema (item_place place)) xs.items
  of_list xs here place =
      ap (λ w. uses_of schema w here place) (sym (v.rolls-List xs))
      ∙ ap (λ (f : UsesAt). f here place) (fold-roll-InputValue S UsesAt (uses_step schema) (InputValue-F.List xs))
      ∙ flat_map-map (λ w. w.item w.span (item_place place)) _ xs.items

  of_object : (es : Vec (Entry (InputValue S)) Global) (here : Span) (place : Option PlaceValue)
      → uses_of schema (v.Object es) here place ≡ flat_map (λ e. value_uses schema (field_place schema place (string_bytes e.0.item)) e.1) es.items
  of_object es here place =
      ap (λ w. uses_of schema w here place) (sym (v.rolls-Object es))
      ∙ ap (λ (f : UsesAt). f here place) (fold-roll-InputValue S UsesAt (uses_step schema) (InputValue-F.Object es))
      ∙ flat_map-map (λ e. e.1.item e.1.span (field_place schema place (string_bytes e.0.item))) _ es.items

  -- what is inside a list or an object
  pub left_of_list : (w : Placed (InputValue S)) (xs : Vec (Placed (InputValue S)) Global) (r : Bor (List (Placed (InputValue S)))) (p q : Option InputPlace) → w.item ≡ v.List xs → r.now ≡ xs.items
      → option_map place_value p ≡ item_place (option_map place_value q) → value_uses schema (option_map place_value q) w ≡ left_uses schema (Items p r)
  left_of_list w xs r p q e h k =
      ap (λ z. uses_of schema z w.span (option_map place_value q)) e
      ∙ of_list xs w.span (option_map place_value q)
      ∙ ap (λ l. flat_map (value_uses schema (item_place (option_map place_value q))) l) (sym h)
      ∙ ap (λ z. flat_map (value_uses schema z) r.now) (sym k)

  pub left_of_object : (w : Placed (InputValue S)) (es : Vec (Entry (InputValue S)) Global) (r : Bor (List (Entry (InputValue S)))) (q : Option InputPlace) → w.item ≡ v.Object es → r.now ≡ es.items
      → value_uses schema (option_map place_value q) w ≡ left_uses schema (Entries q r)
  left_of_object w es r q e h =
      ap (λ z. uses_of schema z w.span (option_map place_value q)) e
      ∙ of_object es w.span (option_map place_value q)
      ∙ ap (λ l. flat_map (λ x. value_uses schema (field_place schema (option_map place_value q) (string_bytes x.0.item)) x.1) l) (sym h)

  waiting_push : (ws : List (Waiting S)) (w : Waiting S) → waiting_uses schema (ws ++ w ∷ []) ≡ left_uses schema w ++ waiting_uses schema ws
  waiting_push ws w = ap (λ us. flat_map (left_uses schema) us) (reverse-append ws (w ∷ [])) ∙ flat_map-cons (left_uses schema) w (reverse ws)

  -- what is inside a value is put on the list
  pub put : (us : List UseValue) (w : Waiting S) (old new : List (Waiting S)) (lists : List (List UseValue)) → us ≡ left_uses schema w → new ≡ old ++ w ∷ []
      → with_uses (waiting_uses schema new) lists ≡ with_uses (us ++ waiting_uses schema old) lists
  put us w old new lists e k =
      ap (λ z. with_uses z lists) (ap (waiting_uses schema) k ∙ waiting_push old w ∙ ap (λ z. z ++ waiting_uses schema old) (sym e))
