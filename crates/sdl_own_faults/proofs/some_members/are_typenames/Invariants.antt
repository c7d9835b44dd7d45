use Rattle.std.proofs.Common.{◌≡◌, drop}
use Rattle.sdl_own_faults.specs.SomeMembers.{are_typenames}
use Rattle.sdl_own_faults.proofs.some_members.are_typenames.Given as goal

-- what is left decides
abbrev pub invariant-loop-field : goal.invariant-loop-field
invariant-loop-field l = are_typenames l.fields ≡ are_typenames (drop l.field-index l.fields)
