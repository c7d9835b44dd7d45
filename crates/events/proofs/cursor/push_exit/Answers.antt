use Rattle.events.proofs.cursor.push_exit.Goals as goal

pub returns : goal.returns
returns g c = c.push_part.ensures
