use Rattle.rules_positions.proofs.Skipping.{kept_none, keeps_none}
use Rattle.rules_positions.proofs.first_variables.FirstVariables.is_empty.Goals as goal

pub returns : goal.returns
returns g c =
    let variables = c.args.self.now in
    (λ empty. keeps_none variables (c.is_empty.ensures.0 empty), λ none. c.is_empty.ensures.1 (kept_none variables none))
