-- Later fragments of a name (section 5.5.1.1).
use Rattle.std.specs.Prelude.{ℕ, List, ◌++◌, Option, Some, None, codes}
use Rattle.events.specs.Node.{Node, fragment_definition}
use Rattle.rules_support.specs.Names.{Named}

abbrev pub repeated_fragment_message : List ℕ → List ℕ
repeated_fragment_message name = codes "There can only be one fragment named " ++ name

-- the name that a definition of a fragment gives, with the place of the name
abbrev pub fragment_name : {S : Type 0} → Node S → Option Named
fragment_name (fragment_definition f) = Some (f.item.name.item.now, f.item.name.span.start)
fragment_name _ = None
