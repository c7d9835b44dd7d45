use Rattle.std.proofs.Common.{option_map}
use Rattle.rules_specified_uses.specs.InputPlaces.{place_value}
use Rattle.rules_specified_uses.specs.ValueUses.{value_uses}
use Rattle.rules_specified_uses.specs.declared.value_uses.Waiting.TheVariants.{Items, Entries}
use Rattle.rules_specified_uses.proofs.WaitingUses.{left_of_list, left_of_object, put}
use Rattle.rules_specified_uses.proofs.value_uses.begin_value.Goals as goal

pub returns-in_ok-push-in-List : goal.returns-in_ok-push-in-List
returns-in_ok-push-in-List g c =
    let schema = c.args.schema.now in
    let value = c.args.value.now in
    put schema (value_uses schema (option_map place_value c.args.place) value) (Items c.item_place.result c.as_slice.result) _ _ _
    (left_of_list schema value c.in-List.items c.as_slice.result c.item_place.result c.args.place c.in-List.is c.as_slice.ensures.value c.item_place.ensures)
    c.in_ok-push-in-List.ensures.items

pub returns-in_ok-push-in-Object : goal.returns-in_ok-push-in-Object
returns-in_ok-push-in-Object g c =
    let schema = c.args.schema.now in
    let value = c.args.value.now in
    put schema (value_uses schema (option_map place_value c.args.place) value) (Entries c.args.place c.as_slice-in-Object.result) _ _ _
    (left_of_object schema value c.in-Object.entries c.as_slice-in-Object.result c.args.place c.in-Object.is c.as_slice-in-Object.ensures.value)
    c.in_ok-push-in-Object.ensures.items
