use Rattle.std.proofs.Common.{◌≡◌, drop}
use Rattle.sdl_places.specs.Places.{first_in, definition_place}
use Rattle.sdl_places.proofs.documents.defined_place.Given as goal

-- no earlier item has a place
abbrev pub invariant-loop-definition : goal.invariant-loop-definition
invariant-loop-definition l = first_in (definition_place l.name) l.document ≡ first_in (definition_place l.name) (drop l.definition-index l.document)
