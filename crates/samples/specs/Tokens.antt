-- The results of a token function that refuses every token.
use Rattle.std.specs.Prelude.{◌≡◌, ⊤, ℕ, List, Result, Ok, Err, string_bytes}
use Rattle.language_types.specs.declared.error.ParseError.{ParseError}
use Rattle.language_types.specs.declared.error.ParseError.TheVariants as e

-- a refusal with this text, unless it ran out of memory
abbrev pub RefusesToken : {S : Type 0} → List ℕ → Result S ParseError → Type 0
RefusesToken text (Ok s) = ⊥
RefusesToken text (Err (e.Refused m)) = string_bytes m ≡ text
RefusesToken text (Err e.OutOfMemory) = ⊤
