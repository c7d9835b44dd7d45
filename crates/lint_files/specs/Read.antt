-- What is read of paths, and the text of what was read.
use Rattle.std.specs.Prelude.{◌≡◌, ◌+◌, ℕ, List, [], ◌∷◌, Option, IfSome, String, string_bytes}
use Rattle.std.specs.declared.alloc.Global.{Global}
use Rattle.std.specs.Option.{option_to_list}
use Rattle.lint_files.specs.Host.{Host}
use Rattle.lint_files.specs.Paths.{Paths}
use Rattle.lint_sources.specs.declared.sources.Joined.{Joined}
use Rattle.lint_sources.specs.declared.sources.Source.{Source}
use Rattle.lint_sources.specs.Places.{HasNoFile, JoinsFile}
use Rattle.variable_values.specs.InTurn.{InTurn}

-- a file has this name and these bytes
abbrev pub HasText : List ℕ → List ℕ → Source → Type 0
HasText path bytes source = (string_bytes source.path ≡ path) × (string_bytes source.text ≡ bytes)

-- a file has this name, and its bytes where they are known
abbrev pub IsFileOf : Host → List ℕ → Source → Type 0
IsFileOf host path source = (string_bytes source.path ≡ path) × IfSome (host.file path) (λ bytes. string_bytes source.text ≡ bytes)

-- what is read of a path: the file of this name, or nothing
abbrev pub IsReadOf : Host → ℕ → String Global → List Source → Type 0
IsReadOf host index path sources =
    (read : Option Source) × (sources ≡ option_to_list read) × IfSome read (IsFileOf host (string_bytes path))

-- what is read of each path in turn
abbrev pub AreReadOf : Host → Paths → List Source → Type 0
AreReadOf host = InTurn (IsReadOf host) 0

-- a text with these files behind it, whose numbers count from this
abbrev pub JoinsFiles : ℕ → List Source → Joined → Joined → Type 0
JoinsFiles file [] old new = new ≡ old
JoinsFiles file (source ∷ sources) old new =
    (next : Joined) × JoinsFile old file (string_bytes source.text) next × JoinsFiles (file + 1) sources next new

-- the text of these files
abbrev pub IsJoined : ℕ → List Source → Joined → Type 0
IsJoined file sources joined = (none : Joined) × HasNoFile none × JoinsFiles file sources none joined
