use Rattle.std.proofs.Common.{◌≡◌, ◌++◌, take}
use Rattle.std.specs.List.{flat_map}
use Rattle.sdl_directives.specs.Known.{definitions_of, directive_of}
use Rattle.sdl_directives.proofs.known.add_directives.Given as goal

-- those of what was seen
abbrev pub invariant-loop-definition : goal.invariant-loop-definition
invariant-loop-definition l = definitions_of l.known.items ≡ definitions_of l.initial.known.items ++ flat_map directive_of (take l.definition-index l.document)
