use Rattle.std.proofs.Common.{length}
use Rattle.schema.proofs.model.schemas.subtypes.+are_modifiers_below.Given as goal

abbrev pub decreases-are_modifiers_below : goal.decreases-are_modifiers_below
decreases-are_modifiers_below l = length l.sub_type.now
