use Rattle.std.proofs.Common.{take}
use Rattle.std.specs.Fmt.{IsPlainFormatter, HasWritten}
use Rattle.walk.specs.ErrorValue.{more_places}
use Rattle.walk.proofs.rule_error.print_more_places.Given as goal

-- the places so far were written
abbrev pub invariant-loop-place : goal.invariant-loop-place
invariant-loop-place g l =
    IsPlainFormatter l.fn.f → HasWritten g.W.Write.write_str_gives l.fn.f (more_places (take l.place-index l.places)) l.f
