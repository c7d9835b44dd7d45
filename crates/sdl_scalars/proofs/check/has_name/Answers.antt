use Rattle.std.proofs.Common.{sym, ◌∙◌}
use Rattle.sdl_scalars.proofs.check.has_name.Goals as goal

pub returns : goal.returns
returns c = (λ t. sym c.is_among.ensures ∙ t, λ h. c.is_among.ensures ∙ h)
