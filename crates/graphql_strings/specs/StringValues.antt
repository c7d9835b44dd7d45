-- What a string stands for (GraphQL, October 2021, section 2.9.4), production by production, over the bytes of UTF-8.
-- A text holds characters, so two code units that are a surrogate pair stand for one, and a surrogate alone for none.
use Rattle.std.specs.Prelude.{◌≡◌, ℕ, ◌+◌, ◌*◌, Bool, true, not, ◌||◌, ◌==◌, if◌then◌else◌, List, [], ◌∷◌, ◌++◌, Option}
use Rattle.std.specs.Prelude.{Some, None}
use Rattle.std.specs.Char.{IsScalar, is_digit, digit_value, encode_utf8}
use Rattle.std.specs.Char.Utf16.{is_high_surrogate, is_low_surrogate, surrogate_pair_char}
use Rattle.std.specs.List.{list_all}
use Rattle.graphql_strings.specs.declared.strings.StringError.{StringError}
use Rattle.graphql_strings.specs.declared.strings.StringError.TheVariants.{Escape, OutOfMemory}

-- the character that an EscapedCharacter stands for behind a backslash
unfoldable pub escaped_character : ℕ → Option ℕ
escaped_character e =
    if (e == 34) || ((e == 92) || (e == 47)) then Some e
    else if e == 98 then Some 8
    else if e == 102 then Some 12
    else if e == 110 then Some 10
    else if e == 114 then Some 13
    else if e == 116 then Some 9
    else None

-- 0 to 9, A to F or a to f
abbrev pub is_hex : ℕ → Bool
is_hex c = is_digit c 16

-- the number that four hexadecimal digits write
abbrev pub code_unit : ℕ → ℕ → ℕ → ℕ → ℕ
code_unit a b c d = digit_value a * 4096 + digit_value b * 256 + digit_value c * 16 + digit_value d

-- s is the EscapedUnicode of the code unit u
abbrev pub IsEscapedUnicode : List ℕ → ℕ → Type 0
IsEscapedUnicode s u =
    (a : ℕ) × (b : ℕ) × (c : ℕ) × (d : ℕ) × (s ≡ a ∷ b ∷ c ∷ d ∷ [])
    × (list_all is_hex s ≡ true) × (code_unit a b c d ≡ u)

-- s is an escape, or a pair of them, and stands for the character c
pub data IsEscape : List ℕ → ℕ → Type 0 where
  character : {e c : ℕ} → escaped_character e ≡ Some c → IsEscape (92 ∷ e ∷ []) c
  unicode : {s : List ℕ} {u : ℕ} → IsEscapedUnicode s u → IsScalar u → IsEscape (92 ∷ 117 ∷ s) u
  pair : {s t : List ℕ} {u v : ℕ} → IsEscapedUnicode s u → IsEscapedUnicode t v → is_high_surrogate u ≡ true
      → is_low_surrogate v ≡ true → IsEscape (92 ∷ 117 ∷ (s ++ (92 ∷ 117 ∷ t))) (surrogate_pair_char u v)

-- no backslash
abbrev pub is_plain : ℕ → Bool
is_plain c = not (c == 92)

-- StringCharacter*: what stands between the quotes, and the text that it stands for
pub data IsStringValue : List ℕ → List ℕ → Type 0 where
  nothing : IsStringValue [] []
  plain : {c : ℕ} {s v : List ℕ} → is_plain c ≡ true → IsStringValue s v → IsStringValue (c ∷ s) (c ∷ v)
  escape : {e s v : List ℕ} {c : ℕ} → IsEscape e c → IsStringValue s v → IsStringValue (e ++ s) (encode_utf8 c ++ v)

-- no text is the string's value, where it is at fault
abbrev pub IsRefused : List ℕ → StringError → Type 0
IsRefused raw (Escape place expected) = (v : List ℕ) → IsStringValue raw v → ⊥
IsRefused raw OutOfMemory = Unit {0}
