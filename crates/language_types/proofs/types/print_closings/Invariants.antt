use Rattle.std.proofs.Common.{take}
use Rattle.std.specs.Fmt.{IsPlainFormatter, HasWritten}
use Rattle.std.specs.List.{flat_map}
use Rattle.language_types.specs.Types.{closing}
use Rattle.language_types.proofs.types.print_closings.Given as goal

-- what was written for the modifiers so far
abbrev pub invariant-loop-modifier : goal.invariant-loop-modifier
invariant-loop-modifier g l =
    IsPlainFormatter l.fn.f → HasWritten g.W.Write.write_str_gives l.fn.f (flat_map closing (take l.modifier-index l.modifiers)) l.f
