use Rattle.std.proofs.Common.{subst}
use Rattle.std.proofs.lemmas.List.{take_all}
use Rattle.language_values.specs.Values.{last_value}
use Rattle.variable_values.specs.Entries.{IsPlaceOf, place_in}
use Rattle.variable_values.proofs.PlacesOfEntries.{places_more}
use Rattle.variable_values.proofs.entries.last_places.Goals as goal

pub loop-i-preserved : goal.loop-i-preserved
loop-i-preserved g c =
    places_more c.args.entries.now c.loop-i.i c.index-entries-i.result c.as_str.result.now c.loop-i.places c.insert.new.self c.loop-i-test.true c.index-entries-i.is c.as_str.ensures.value c.loop-i.invariant c.in_ok-insert.ensures.updates

pub returns : goal.returns
returns g c = λ key.
    subst (λ es. IsPlaceOf c.args.entries.now (last_value key es) (place_in c.loop-i.places key)) (take_all c.loop-i.i c.args.entries.now c.loop-i-test.false) (c.loop-i.invariant key)
