use Rattle.std.proofs.Common.{◌≡◌, Some, None, sym, ◌∙◌, subst}
use Rattle.language_values.specs.Values.{last_value}
use Rattle.variable_values.specs.Entries.{IsPlaceOf, place_in}
use Rattle.variable_values.proofs.faults.last_value_of.Goals as goal

pub bounds-entries-i : goal.bounds-entries-i
bounds-entries-i g c =
    let entries = c.args.entries.now in
    let key = c.args.key.now in
    let at : place_in c.args.places.now key ≡ Some c.in-Some.i = sym c.place_of.ensures ∙ c.in-Some.is in
    (subst (IsPlaceOf entries (last_value key entries)) at (c.requires key)).0

pub returns-in-None : goal.returns-in-None
returns-in-None g c =
    let entries = c.args.entries.now in
    let key = c.args.key.now in
    let found : place_in c.args.places.now key ≡ None = sym c.place_of.ensures ∙ c.in-None.is in
    sym (subst (IsPlaceOf entries (last_value key entries)) found (c.requires key))

pub returns-in-Some : goal.returns-in-Some
returns-in-Some g c =
    let entries = c.args.entries.now in
    let key = c.args.key.now in
    let found : place_in c.args.places.now key ≡ Some c.in-Some.i = sym c.place_of.ensures ∙ c.in-Some.is in
    let at = subst (IsPlaceOf entries (last_value key entries)) found (c.requires key) in
    sym (at.1 c.index-entries-i.result)
