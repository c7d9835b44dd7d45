use Rattle.std.proofs.Common.{sym, ◌∙◌}
use Rattle.sdl_directive_circles.proofs.Ways.{unplaced}
use Rattle.sdl_directive_circles.proofs.circles.circle_of.Goals as goal

pub returns-in-None : goal.returns-in-None
returns-in-None c = unplaced c.args.document.now c.args.references.now c.requires.references c.args.defined.now (sym c.place_of.ensures ∙ c.in-None.is)
