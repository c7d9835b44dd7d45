use Rattle.std.proofs.Common.{rules}
use Rattle.rules_first_stage.proofs.Clean.{clean}
use Rattle.rules_specified_stage.proofs.laws.clean_documents.Goals as goal

pub returns : goal.returns
returns g c = λ schema t doc h. clean schema t doc (record {
  no_fragment_cycles = assumption h;
  unique_operation_names = assumption h;
  unique_fragment_names = assumption h;
  unique_variable_names = assumption h;
  unique_argument_names = assumption h;
  unique_input_field_names = assumption h;
  known_fragment_names = assumption h;
  known_type_names = assumption h;
  variables_are_input_types = assumption h;
})
