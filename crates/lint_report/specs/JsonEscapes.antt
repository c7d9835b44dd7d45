-- Escapes in a JSON text (RFC 8259, section 7) for the characters that are not printable.
use Rattle.std.specs.Prelude.{◌==◌, ◌||◌, ◌++◌, ℕ, List, [], chars, codes, false, flat_map, if◌then◌else◌, nat_lt}
use Rattle.std.specs.Char.{encode_utf8}
use Rattle.std.specs.Fmt.{digits}
use Rattle.lint_report.specs.Printable.{is_printable}

-- what fills four hexadecimal digits
abbrev pub zeros : ℕ → List ℕ
zeros code =
    if nat_lt code 0x10 then codes "000"
    else if nat_lt code 0x100 then codes "00"
    else if nat_lt code 0x1000 then codes "0"
    else []

-- `\u202e`
abbrev pub escape : ℕ → List ℕ
escape code = codes "\\u" ++ zeros code ++ digits 16 false code

-- a character as it stands in the text; the line feeds between tokens stay
abbrev pub escaped_character : ℕ → List ℕ
escaped_character character =
    if character == 10 || is_printable character then encode_utf8 character else escape character

abbrev pub escaped : List ℕ → List ℕ
escaped json = flat_map escaped_character (chars json)
