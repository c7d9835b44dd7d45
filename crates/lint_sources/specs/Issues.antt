-- An error of a joined text as an issue of a file.
use Rattle.std.specs.Prelude.{◌≡◌, ℕ, List, [], ◌∷◌, map, string_bytes}
use Rattle.std.specs.Ordering.{eq_by_cmp, nat_cmp}
use Rattle.std.specs.Set.{distinct_count}
use Rattle.language_types.specs.declared.position.SourcePosition.{SourcePosition}
use Rattle.lint_sources.specs.declared.issues.Issue.{Issue}
use Rattle.lint_sources.specs.declared.sources.Joined.{Joined}
use Rattle.lint_sources.specs.declared.sources.Place.{Place}
use Rattle.lint_sources.specs.Places.{place_in}

-- an error belongs to the file of its first place, and one without a place to the given file
abbrev pub file_of : ℕ → List Place → ℕ
file_of file [] = file
file_of file (place ∷ places) = place.file

-- the issue has this message and these places, and belongs to their file
pub record IsIssue (file : ℕ) (message : List ℕ) (places : List Place) (issue : Issue) : Type 0 where
  pub message_is : string_bytes issue.message ≡ message
  pub places_are : issue.places.items ≡ places
  pub file_is : issue.file ≡ file_of file places

-- the same, with positions of the joined text
abbrev pub IsIssueIn : Joined → ℕ → List ℕ → List SourcePosition → Issue → Type 0
IsIssueIn joined file message locations = IsIssue file message (map (place_in joined) locations)

-- the number of files that have issues
abbrev pub file_count : List Issue → ℕ
file_count issues = distinct_count (eq_by_cmp nat_cmp) (map (λ i. i.file) issues)
