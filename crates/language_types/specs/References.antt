-- What references refer to.
use Rattle.std.specs.Prelude.{List, map}
use denote.Ref.{Bor}

-- the values behind the references of a list, as `Iterator::copied` gives them
abbrev pub list_copied : {T : Type 0} → List (Bor T) → List T
list_copied rs = map (λ r. r.now) rs
