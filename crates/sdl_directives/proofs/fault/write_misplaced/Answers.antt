use Rattle.std.proofs.Common.{rules}
use Rattle.sdl_directives.proofs.fault.write_misplaced.Goals as goal

pub returns : goal.returns
returns g c = rw (← c.location_words-words.ensures) (search rules)
