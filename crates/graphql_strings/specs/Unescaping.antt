-- What the scanner of strings computes: the character of the escape at the front of a text with its length, or how many
-- bytes stand before the first one at which it is no escape. That these are the escapes of StringValues is proved.
use Rattle.std.specs.Prelude.{ℕ, ◌+◌, not, ◌==◌, if◌then◌else◌, List, Option, Some, None, Result, Ok, Err}
use Rattle.std.specs.Char.Utf16.{is_high_surrogate, is_low_surrogate, surrogate_pair_char}
use Rattle.graphql_strings.specs.Characters.{at}
use Rattle.graphql_strings.specs.StringValues.{escaped_character, is_hex, code_unit}

abbrev pub and_then : {A B : Type 0} → Result A ℕ → (A → Result B ℕ) → Result B ℕ
and_then (Ok x) next = next x
and_then (Err passed) next = Err passed

abbrev pub found_or : ℕ → ℕ → Option ℕ → Result (ℕ × ℕ) ℕ
found_or passed n (Some c) = Ok (c, n)
found_or passed n None = Err passed

-- EscapedUnicode, from this index on
unfoldable pub unit_at : List ℕ → ℕ → Result ℕ ℕ
unit_at text n =
    if not (is_hex (at text n)) then Err n
    else if not (is_hex (at text (n + 1))) then Err (n + 1)
    else if not (is_hex (at text (n + 2))) then Err (n + 2)
    else if not (is_hex (at text (n + 3))) then Err (n + 3)
    else Ok (code_unit (at text n) (at text (n + 1)) (at text (n + 2)) (at text (n + 3)))

-- the second half of a surrogate pair, behind the first
unfoldable pub pair_at : List ℕ → ℕ → Result (ℕ × ℕ) ℕ
pair_at text high =
    if not (at text 6 == 92) then Err 6
    else if not (at text 7 == 117) then Err 7
    else and_then (unit_at text 8)
    (λ low. if is_low_surrogate low then Ok (surrogate_pair_char high low, 12) else Err 11)

-- `\u` and its code unit, or a pair of them
unfoldable pub unicode_at : List ℕ → Result (ℕ × ℕ) ℕ
unicode_at text =
    and_then (unit_at text 2)
    (λ u. if is_high_surrogate u then pair_at text u else if is_low_surrogate u then Err 5 else Ok (u, 6))

-- a backslash and what follows it
unfoldable pub escape_at : List ℕ → Result (ℕ × ℕ) ℕ
escape_at text = if at text 1 == 117 then unicode_at text else found_or 1 2 (escaped_character (at text 1))
