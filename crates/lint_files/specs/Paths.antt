-- Which files arguments stand for.
use denote.Ref.{Bor}
use Rattle.std.specs.Prelude.{◌≡◌, ◌∷◌, ◌++◌, ℕ, List, [], None, Option, Some, IfSome, IsPermutation, IsSorted, String}
use Rattle.std.specs.Prelude.{option_map, string_cmp}
use Rattle.std.specs.declared.alloc.Global.{Global}
use Rattle.lint_files.specs.Host.{Host}
use Rattle.lint_args.specs.Asks.{distinct, word_texts}
use Rattle.variable_values.specs.InTurn.{InTurn}

abbrev pub Paths : Type 0
Paths = List (String Global)

-- the files listed of a directory stand in ascending order; what is no directory, or has none, stands for itself
abbrev pub IsListing : List ℕ → Option Paths → Paths → Type 0
IsListing argument None stood = word_texts stood ≡ argument ∷ []
IsListing argument (Some []) stood = word_texts stood ≡ argument ∷ []
IsListing argument (Some (file ∷ files)) stood = IsPermutation (file ∷ files) stood × IsSorted string_cmp stood

-- an argument stands for what is listed of it, which is known where the host's files are
abbrev pub StandsFor : Host → List ℕ → Paths → Type 0
StandsFor host argument stood =
    (listed : Option Paths) × IfSome (host.below argument) (λ known. option_map word_texts listed ≡ known) × IsListing argument listed stood

-- what arguments stand for in turn, each path once
abbrev pub ArePathsOf : Host → List (Bor (List ℕ)) → Paths → Type 0
ArePathsOf host arguments paths =
    (all : Paths) × InTurn (λ index argument. StandsFor host argument.now) 0 arguments all × (word_texts paths ≡ distinct (word_texts all))

-- more paths came behind those that are the distinct ones of some
abbrev pub AddsEach : Paths → Paths → Paths → Type 0
AddsEach more old new =
    (before : List (List ℕ)) → word_texts old ≡ distinct before → word_texts new ≡ distinct (before ++ word_texts more)
