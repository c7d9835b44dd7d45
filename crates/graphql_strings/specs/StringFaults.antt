-- Where a fault inside a string is told: at the first byte with which no escape goes on, or at the end of one that
-- stands for no character, as a surrogate alone.
use Rattle.std.specs.Prelude.{◌≡◌, ◌⊎◌, ℕ, suc, ◌+◌, true, false, List, [], ◌∷◌, ◌++◌, Some, length, take, drop}
use Rattle.std.specs.Char.Utf16.{is_high_surrogate}
use Rattle.graphql_strings.specs.Characters.{at}
use Rattle.graphql_strings.specs.StringValues.{escaped_character, IsEscapedUnicode, IsEscape, IsStringValue}
use Rattle.graphql_strings.specs.declared.strings.StringError.{StringError}
use Rattle.graphql_strings.specs.declared.strings.StringError.TheVariants.{Escape, OutOfMemory}

-- s is written as an escape: an EscapedCharacter, a code unit, or a high surrogate and the code unit behind it
pub data IsWritten : List ℕ → Type 0 where
  character_written : {e c : ℕ} → escaped_character e ≡ Some c → IsWritten (92 ∷ e ∷ [])
  unit_written : {s : List ℕ} {u : ℕ} → IsEscapedUnicode s u → is_high_surrogate u ≡ false → IsWritten (92 ∷ 117 ∷ s)
  pair_written : {s t : List ℕ} {u v : ℕ} → IsEscapedUnicode s u → is_high_surrogate u ≡ true → IsEscapedUnicode t v
      → IsWritten (92 ∷ 117 ∷ (s ++ (92 ∷ 117 ∷ t)))

-- some escape begins with s
abbrev pub GoesOn : List ℕ → Type 0
GoesOn s = (more : List ℕ) × IsWritten (s ++ more)

-- of what begins with a backslash n bytes go on, and then the text ends, or the next byte does not go on, or it ends an
-- escape that stands for no character
abbrev pub Stops : List ℕ → ℕ → Type 0
Stops text n =
    GoesOn (take n text)
    × ((n ≡ length text) ⊎ (GoesOn (take (suc n) text) → ⊥)
    ⊎ (IsWritten (take (suc n) text) × ((c : ℕ) → IsEscape (take (suc n) text) c → ⊥)))

-- the place of a fault: behind a whole text of a string, in what a backslash begins
abbrev pub IsFaultPlace : List ℕ → StringError → Type 0
IsFaultPlace raw (Escape place expected) =
    (start : ℕ) × (n : ℕ) × (v : List ℕ) × (place ≡ start + n) × IsStringValue (take start raw) v
    × (at (drop start raw) 0 ≡ 92) × Stops (drop start raw) n
IsFaultPlace raw OutOfMemory = Unit {0}
