use Rattle.rules_document.specs.NoUnusedFragmentsLaws.{unused_told}
use Rattle.rules_document.proofs.laws.unused_are_told.Goals as goal

pub returns : goal.returns
returns g c = unused_told
