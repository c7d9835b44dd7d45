use Rattle.std.proofs.Common.{◌≡◌, ◌∙◌, ℕ, List, Option, Some, ap, sym}
use Rattle.std.specs.Option.{option_map}
use Rattle.std.specs.Prelude.{option_and_then}
use Rattle.language_types.specs.Types.{borrowed_shape}
use Rattle.meta.specs.declared.kinds.MetaTypeOf.{MetaTypeOf}
use Rattle.meta.specs.Kinds.{input_field_named}
use Rattle.schema.specs.Catalog.{Catalog, type_in}
use Rattle.rules_specified_uses.specs.InputPlaces.{field_place, place_of, place_value}
use Rattle.rules_specified_uses.specs.declared.input_places.InputPlace.{InputPlace}
use Rattle.rules_specified_uses.proofs.input_places.field_place.Goals as goal

-- the field of the type that was found is that of the place
of_field : {S C : Type 0} (schema : Catalog S C) (place : Option InputPlace) (p : InputPlace) (object : MetaTypeOf S C) (name key : List ℕ) → place ≡ Some p
    → name ≡ (borrowed_shape p.expected).name → Some object ≡ type_in name schema
    → option_map place_of (input_field_named key object) ≡ field_place schema (option_map place_value place) key
of_field {S} {C} schema place p object name key is named found =
    let by_type = λ (o : Option (MetaTypeOf S C)). option_map place_of (option_and_then (input_field_named key) o) in
    ap by_type found
    ∙ ap (λ n. by_type (type_in n schema)) named
    ∙ sym (ap (λ q. field_place schema (option_map place_value q) key) is)

pub returns-in-Some : goal.returns-in-Some
returns-in-Some g c =
    ap Some c.place_of.ensures
    ∙ ap (option_map place_of) c.in-Some.ensures
    ∙ of_field c.args.schema.now c.args.place c.in_ok-place.field-0 c.in_ok-object.object.now c.innermost_name-name.result.now c.args.key.now c.in_ok-place.was c.innermost_name-name.ensures
    c.in_ok-object.ensures

pub returns-in-None : goal.returns-in-None
returns-in-None g c =
    ap (option_map place_of) c.in-None.ensures
    ∙ of_field c.args.schema.now c.args.place c.in_ok-place.field-0 c.in_ok-object.object.now c.innermost_name-name.result.now c.args.key.now c.in_ok-place.was c.innermost_name-name.ensures
    c.in_ok-object.ensures
