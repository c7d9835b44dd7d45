use Rattle.language_values.specs.declared.value.Rest.TheVariants.{Items, Entries}
use Rattle.language_values.proofs.VariablesWaiting.{put, put_less, left_of_list, left_of_object, inside_list, inside_object}
use Rattle.language_values.proofs.value.add_variables_of.Goals as goal

pub returns-in_ok-push-in-List-clause-value : goal.returns-in_ok-push-in-List-clause-value
returns-in_ok-push-in-List-clause-value g c =
    put c.args.value.now (Items c.as_slice.result) _ _ _ (left_of_list c.args.value.now c.in-List.items c.as_slice.result c.in-List.is c.as_slice.ensures.value) c.in_ok-push-in-List.ensures.items

pub returns-in_ok-push-in-List-clause-less : goal.returns-in_ok-push-in-List-clause-less
returns-in_ok-push-in-List-clause-less g c =
    put_less c.args.value.now (Items c.as_slice.result) _ _ (inside_list c.args.value.now c.in-List.items c.as_slice.result c.in-List.is c.as_slice.ensures.value) c.in_ok-push-in-List.ensures.items

pub returns-in_ok-push-in-Object-clause-value : goal.returns-in_ok-push-in-Object-clause-value
returns-in_ok-push-in-Object-clause-value g c =
    put c.args.value.now (Entries c.as_slice-in-Object.result) _ _ _ (left_of_object c.args.value.now c.in-Object.entries c.as_slice-in-Object.result c.in-Object.is c.as_slice-in-Object.ensures.value) c.in_ok-push-in-Object.ensures.items

pub returns-in_ok-push-in-Object-clause-less : goal.returns-in_ok-push-in-Object-clause-less
returns-in_ok-push-in-Object-clause-less g c =
    put_less c.args.value.now (Entries c.as_slice-in-Object.result) _ _ (inside_object c.args.value.now c.in-Object.entries c.as_slice-in-Object.result c.in-Object.is c.as_slice-in-Object.ensures.value) c.in_ok-push-in-Object.ensures.items
