use Rattle.type_system_interfaces.proofs.field_types.is_field_type.Goals as goal

pub returns : goal.returns
returns g c = cc
