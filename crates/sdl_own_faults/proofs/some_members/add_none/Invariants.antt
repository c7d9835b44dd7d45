use Rattle.std.proofs.Common.{◌≡◌, drop}
use Rattle.sdl_own_faults.specs.Parts.{definitions_of}
use Rattle.sdl_own_faults.specs.SomeMembers.{add_none}
use Rattle.sdl_own_faults.proofs.some_members.add_none.Given as goal

-- what is left decides
abbrev pub invariant-loop-extension : goal.invariant-loop-extension
invariant-loop-extension l = add_none l.defined (definitions_of l.extensions) ≡ add_none l.defined (definitions_of (drop l.extension-index l.extensions))
