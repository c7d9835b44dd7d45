use Rattle.std.proofs.Common.{◌≡◌, take}
use Rattle.sdl_own_faults.specs.Parts.{definitions_of, extensions_in}
use Rattle.sdl_own_faults.proofs.parts.extensions_in.Given as goal

-- those of what was seen
abbrev pub invariant-loop-definition : goal.invariant-loop-definition
invariant-loop-definition l = definitions_of l.extensions.items ≡ extensions_in (take l.definition-index l.document)
