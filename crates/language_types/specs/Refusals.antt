-- What the refusals of a check and of a token function say.
use Rattle.std.specs.Prelude.{ℕ, List, Option, Some, None, codes, string_bytes}
use Rattle.language_types.specs.declared.error.CheckError.{CheckError}
use Rattle.language_types.specs.declared.error.CheckError.TheVariants as check
use Rattle.language_types.specs.declared.error.ParseError.{ParseError}
use Rattle.language_types.specs.declared.error.ParseError.TheVariants as parse

-- the text of a refusal, if it is one
abbrev pub check_message : CheckError → Option (List ℕ)
check_message (check.Refused text) = Some (string_bytes text)
check_message check.OutOfMemory = None

-- the bytes that it prints
abbrev pub check_text : CheckError → List ℕ
check_text (check.Refused text) = string_bytes text
check_text check.OutOfMemory = codes "out of memory"

abbrev pub parse_text : ParseError → List ℕ
parse_text (parse.Refused text) = string_bytes text
parse_text parse.OutOfMemory = codes "out of memory"
