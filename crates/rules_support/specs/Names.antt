-- Names, each with a place.
use Rattle.std.specs.Prelude.{ℕ, List, Option, String, string_bytes}
use Rattle.std.specs.declared.alloc.Global.{Global}
use Rattle.language_types.specs.declared.position.SourcePosition.{SourcePosition}
use Rattle.events.specs.Node.{Name, Placed}

-- a name with a place
abbrev pub Named : Type 0
Named = List ℕ × SourcePosition

-- the name of an entry that has it first, with the place where it starts
abbrev pub text_name : {T : Type 0} → Name × T → Named
text_name entry = (entry.0.item.now, entry.0.span.start)

-- the key of an entry of an object, with the place where it starts
abbrev pub key_name : {T : Type 0} → Placed (String Global) × T → Named
key_name entry = (string_bytes entry.0.item, entry.0.span.start)

-- a place for some names
abbrev pub Places : Type 0
Places = List ℕ → Option SourcePosition
