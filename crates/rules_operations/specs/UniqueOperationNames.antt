-- Later operations of a name (section 5.2.1.1).
use Rattle.std.specs.Prelude.{ℕ, List, ◌++◌, Option, None, codes}
use Rattle.std.specs.Option.{option_map}
use Rattle.events.specs.Node.{Node, operation_definition}
use Rattle.rules_support.specs.Names.{Named}

abbrev pub repeated_operation_message : List ℕ → List ℕ
repeated_operation_message name = codes "There can only be one operation named " ++ name

-- the name of an operation, if it has one, with the place where the operation starts
abbrev pub operation_name : {S : Type 0} → Node S → Option Named
operation_name (operation_definition o) = option_map (λ name. (name.item.now, o.span.start)) o.item.name
operation_name _ = None
