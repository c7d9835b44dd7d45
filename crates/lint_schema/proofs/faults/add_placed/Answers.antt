use Rattle.lint_schema.proofs.faults.add_placed.Goals as goal

pub returns : goal.returns
returns g c = record { fault = c.in_ok-placed_fault.field-0; told = c.in_ok-placed_fault.ensures; all = c.in_ok-push.ensures.items }
