use Rattle.rules_document.specs.NoFragmentCyclesLaws.{cycles_told}
use Rattle.rules_document.proofs.laws.cycles_are_told.Goals as goal

pub returns : goal.returns
returns g c = cycles_told
