-- The uses in what is left of lists and objects that are gone through.
use Rattle.std.specs.Prelude.{List, option_map, reverse, string_bytes}
use Rattle.std.specs.List.{flat_map}
use Rattle.schema.specs.Catalog.{Catalog}
use Rattle.rules_specified_uses.specs.InputPlaces.{field_place, place_value}
use Rattle.rules_specified_uses.specs.ValueUses.{UseValue, value_uses}
use Rattle.rules_specified_uses.specs.declared.value_uses.Waiting.{Waiting}
use Rattle.rules_specified_uses.specs.declared.value_uses.Waiting.TheVariants.{Items, Entries}

module _ {S C : Type 0} (schema : Catalog S C) where
  -- those in what is left of one
  abbrev pub left_uses : Waiting S → List UseValue
  left_uses (Items place items) = flat_map (value_uses schema (option_map place_value place)) items.now
  left_uses (Entries place entries) =
      flat_map (λ e. value_uses schema (field_place schema (option_map place_value place) (string_bytes e.0.item)) e.1)
      entries.now

  -- those in what waits, the last one first
  abbrev pub waiting_uses : List (Waiting S) → List UseValue
  waiting_uses ws = flat_map left_uses (reverse ws)
