-- Lists of names whose entries are judged with those after them.
use Rattle.std.specs.Prelude.{ℕ, List, [], ◌∷◌, ◌++◌}
use Rattle.type_system_report.specs.Fault.{FaultValue}

-- what is found at each entry of a list, which is given with those after it
abbrev pub each_entry : (List ℕ → List (List ℕ) → List FaultValue) → List (List ℕ) → List FaultValue
each_entry finds [] = []
each_entry finds (n ∷ ns) = finds n ns ++ each_entry finds ns
