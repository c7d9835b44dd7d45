use Rattle.events.proofs.cursor.enter_definition.Goals as goal

pub returns-in-Operation : goal.returns-in-Operation
returns-in-Operation g c = rw c.in-Operation.is c.enter_operation.ensures

pub returns-in-Fragment : goal.returns-in-Fragment
returns-in-Fragment g c = rw c.in-Fragment.is c.enter_fragment.ensures
