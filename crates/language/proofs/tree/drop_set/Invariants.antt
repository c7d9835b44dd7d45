use Rattle.language.specs.SelectionsInside.{all_inside}
use Rattle.language.proofs.tree.drop_set.Given as goal

abbrev pub decreases-loop-selection : goal.decreases-loop-selection
decreases-loop-selection g l = all_inside l.waiting.items
