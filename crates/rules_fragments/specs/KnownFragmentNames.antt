-- Spreads of names that no fragment of the document has (section 5.5.2.1).
use Rattle.std.specs.Prelude.{◌≡◌, true, ℕ, List, [], ◌∷◌, ◌++◌, if◌then◌else◌, codes}
use Rattle.walk.specs.ContextState.{DocumentScope}
use Rattle.walk.specs.ErrorValue.{ErrorValue}
use Rattle.walk.specs.Names.{is_among}
use Rattle.events.specs.Node.{Node, Name, fragment_spread}
use Rattle.events.specs.Occurrence.{Occurrence}

abbrev pub unknown_fragment_message : List ℕ → List ℕ
unknown_fragment_message name = (codes "Unknown fragment: \"" ++ name) ++ codes "\""

-- a name that is not among the known ones is reported, at the name
abbrev pub unknown_name : List (List ℕ) → Name → List ErrorValue
unknown_name known name =
    if is_among known name.item.now then [] else record
    { locations = name.span.start ∷ []; message = unknown_fragment_message name.item.now } ∷ []

-- at a node: a spread
abbrev pub unknown_spread : {S : Type 0} → List (List ℕ) → Node S → List ErrorValue
unknown_spread known (fragment_spread s) = unknown_name known s.item.name
unknown_spread known _ = []

-- at a spread: its name, if no fragment has it
abbrev pub unknown_fragments : {S C : Type 0} → DocumentScope S C → Occurrence S C → List ErrorValue
unknown_fragments scope o = unknown_spread scope.known o.node

-- at a node: the name of a spread is that of a fragment
abbrev pub SpreadsKnown : {S : Type 0} → List (List ℕ) → Node S → Type 0
SpreadsKnown known (fragment_spread s) = is_among known s.item.name.item.now ≡ true
SpreadsKnown known _ = Unit {0}
