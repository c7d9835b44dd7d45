use Rattle.std.proofs.Common.{◌≡◌, ◌++◌, ℕ, List, drop, string_bytes}
use Rattle.literals.specs.Begun.{told}
use Rattle.literals.proofs.begun.text_within.Given as goal

-- the text so far is that of the parts so far
abbrev pub invariant-loop-part : goal.invariant-loop-part
invariant-loop-part g l = (said : List ℕ) → string_bytes l.text ++ told (drop l.part-index l.begun) said ≡ told l.begun said
