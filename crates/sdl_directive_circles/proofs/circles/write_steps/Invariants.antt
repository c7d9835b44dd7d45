use Rattle.std.proofs.Common.{drop}
use Rattle.language_types.specs.References.{list_copied}
use Rattle.language_values.specs.ValuesLeft.{WritesPart}
use Rattle.sdl_directive_circles.specs.Circles.{steps_text}
use Rattle.sdl_directive_circles.proofs.circles.write_steps.Given as goal

-- what is written, and the steps that are left, are all steps
abbrev pub invariant-loop-name : goal.invariant-loop-name
invariant-loop-name g l =
    WritesPart g.W.Write.write_str_gives l.fn.f l.f (steps_text (list_copied (drop l.name-index l.way))) (steps_text (list_copied l.way))
