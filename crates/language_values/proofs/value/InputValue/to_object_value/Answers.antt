use Rattle.language_values.proofs.ValueLemmas.{IsMapOfObject-at}
use Rattle.language_values.proofs.value.InputValue.to_object_value.Goals as goal

pub returns-in_ok-map_of_entries-in-Object-clause-value : goal.returns-in_ok-map_of_entries-in-Object-clause-value
returns-in_ok-map_of_entries-in-Object-clause-value g c =
    IsMapOfObject-at c.args.self.now c.in-Object.entries c.as_slice.result.now c.in_ok-map_of_entries-in-Object.field-0 c.in-Object.is c.as_slice.ensures.value c.in_ok-map_of_entries-in-Object.ensures.value
