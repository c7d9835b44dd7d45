use Rattle.rules_support.proofs.Kept.{none_noted}
use Rattle.rules_support.proofs.first_places.FirstPlaces.new.Goals as goal

pub returns-clause-places : goal.returns-clause-places
returns-clause-places c = none_noted _ c.new.ensures.none
